use Rattle.std.proofs.Common.{◌≡◌, ◌-◌, ◌+◌, ◌≤◌, length}
use Rattle.bc_text.specs.Reading.{blocks, blocks_from}
use Rattle.bc_text.proofs.blocks.blocks.Given as goal

abbrev pub invariant-loop-turn : goal.invariant-loop-turn
invariant-loop-turn l = (blocks l.regions l.locals l.fn.cursor ≡ blocks_from l.regions l.locals (256 - l._turn) l.left l.found l.cursor) × (length l.found ≡ l._turn + 1) × (l.left ≤ 4096)
