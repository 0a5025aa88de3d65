use Rattle.std.proofs.Common.{◌≡◌, ◌<◌, ◌≤◌, ◌-◌, ℕ, true, take, length}
use Rattle.bc_flow.specs.Chains.{Leaves}
use Rattle.bc_flow.specs.Graph.{HasEdge}
use Rattle.bc_flow.specs.Flow.{holds}
use Rattle.bc_loans.specs.Sweeps.{HasSet}
use Rattle.bc_loans.proofs.sweeps.reach_from.Given as goal

abbrev pub invariant-loop-at : goal.invariant-loop-at
invariant-loop-at l = record {
  set : HasSet (length l.flow.steps.now) l.reached;
  kept : (n : ℕ) → holds l.initial.reached 0 n ≡ true → holds l.reached 0 n ≡ true;
  within : l.at ≤ length l.flow.edges.now;
  leaves : l.at < length l.flow.edges.now → Leaves l.flow.edges.now l.point l.at;
  targets : (n : ℕ) → HasEdge (take l.at l.flow.edges.now) l.point n → holds l.reached 0 n ≡ true;
}

abbrev pub decreases-loop-at : goal.decreases-loop-at
decreases-loop-at l = length l.flow.edges.now - l.at
