use Rattle.std.proofs.Common.{◌≡◌, ◌++◌, drop, length}
use Rattle.bc_bodies.specs.Mir.{steps_from, entries_from}
use Rattle.bc_bodies.proofs.mir.push_blocks.Given as goal

abbrev pub invariant-loop-number : goal.invariant-loop-number
invariant-loop-number l = record {
  steps : l.steps.items ++ steps_from l.number (drop l.number l.blocks) ≡ l.initial.steps.items ++ steps_from 0 l.blocks;
  entries :
      l.entries.items ++ entries_from (length l.steps.items) (drop l.number l.blocks)
      ≡ l.initial.entries.items ++ entries_from (length l.initial.steps.items) l.blocks;
}
