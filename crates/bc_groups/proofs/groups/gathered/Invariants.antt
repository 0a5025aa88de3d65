use Rattle.std.proofs.Common.{◌≡◌, length}
use Rattle.bc_flow.specs.Flow.{HaveSize}
use Rattle.bc_groups.specs.Groups.{AreGathered}
use Rattle.bc_groups.proofs.groups.gathered.Given as goal

abbrev pub invariant-loop-node : goal.invariant-loop-node
invariant-loop-node l = record {
  groups : length l.gathered ≡ l.groups;
  facts : HaveSize l.facts l.gathered;
  gathered : AreGathered l.node l.rows l.group_of l.gathered;
}
