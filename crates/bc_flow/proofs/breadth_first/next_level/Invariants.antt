use Rattle.std.proofs.Common.{◌≡◌, [], take, length}
use Rattle.bc_flow.specs.Levels.{GivesLevel, IsSuccessor}
use Rattle.bc_flow.proofs.breadth_first.next_level.Given as goal

abbrev pub invariant-loop-node : goal.invariant-loop-node
invariant-loop-node l = record {
  count : length l.levels ≡ length l.initial.levels;
  marks : GivesLevel (IsSuccessor l.edges (take l.node-index l.front)) l.level l.initial.levels l.levels [] l.found.items;
}
