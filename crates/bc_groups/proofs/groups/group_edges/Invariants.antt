use Rattle.std.proofs.Common.{◌≡◌, map, take}
use Rattle.bc_groups.specs.Groups.{group_edge}
use Rattle.bc_groups.proofs.groups.group_edges.Given as goal

abbrev pub invariant-loop-edge : goal.invariant-loop-edge
invariant-loop-edge l = l.condensed.items ≡ map (group_edge l.group_of) (take l.edge-index l.edges)
