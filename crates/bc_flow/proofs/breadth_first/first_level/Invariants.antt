use Rattle.std.proofs.Common.{◌≡◌, [], take, length}
use Rattle.std.specs.List.{Contains}
use Rattle.bc_flow.specs.Levels.{GivesLevel}
use Rattle.bc_flow.proofs.breadth_first.first_level.Given as goal

abbrev pub invariant-loop-node : goal.invariant-loop-node
invariant-loop-node l = record {
  count : length l.levels ≡ length l.initial.levels;
  marks : GivesLevel (Contains (take l.node-index l.sources)) 1 l.initial.levels l.levels [] l.found.items;
}
