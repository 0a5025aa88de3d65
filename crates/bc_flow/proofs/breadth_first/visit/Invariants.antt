use Rattle.std.proofs.Common.{◌≡◌, ◌<◌, ◌≤◌, ◌-◌, take, length}
use Rattle.bc_flow.specs.Graph.{HasEdge}
use Rattle.bc_flow.specs.Chains.{Leaves}
use Rattle.bc_flow.specs.Levels.{GivesLevel}
use Rattle.bc_flow.proofs.breadth_first.visit.Given as goal

abbrev pub invariant-loop-at : goal.invariant-loop-at
invariant-loop-at l = record {
  count : length l.levels ≡ length l.initial.levels;
  within : l.at ≤ length l.edges;
  leaves : l.at < length l.edges → Leaves l.edges l.node l.at;
  marks : GivesLevel (HasEdge (take l.at l.edges) l.node) l.level l.initial.levels l.levels l.initial.found.items l.found.items;
}

abbrev pub decreases-loop-at : goal.decreases-loop-at
decreases-loop-at l = length l.edges - l.at
