use Rattle.std.proofs.Common.{◌≡◌, ◌-◌, [], length}
use Rattle.bc_text.specs.Reading.{block_from}
use Rattle.bc_text.proofs.blocks.points.Given as goal

abbrev pub invariant-loop-turn : goal.invariant-loop-turn
invariant-loop-turn l = (block_from l.regions l.locals l.left [] l.initial.cursor ≡ block_from l.regions l.locals (l.left - l._turn) l.statements l.cursor) × (length l.statements ≡ l._turn)
