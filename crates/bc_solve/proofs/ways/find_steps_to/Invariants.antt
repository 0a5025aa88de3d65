use Rattle.std.proofs.Common.{◌<◌, ◌≤◌, ◌-◌, length}
use Rattle.bc_flow.specs.Chains.{Leaves}
use Rattle.bc_solve.specs.Ways.{AreStepsSoFar}
use Rattle.bc_solve.proofs.Steps.{LeadsSoFar}
use Rattle.bc_solve.proofs.ways.find_steps_to.Given as goal

abbrev pub invariant-loop-at : goal.invariant-loop-at
invariant-loop-at l = record {
  within : l.at ≤ length l.edges;
  leaves : l.at < length l.edges → Leaves l.edges l.shorter l.at;
  so_far : AreStepsSoFar (LeadsSoFar l.edges l.at l.shorter) l.lengths l.steps;
}

abbrev pub decreases-loop-at : goal.decreases-loop-at
decreases-loop-at l = length l.edges - l.at
