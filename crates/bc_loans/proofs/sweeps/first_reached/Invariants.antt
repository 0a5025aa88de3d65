use Rattle.std.proofs.Common.{◌<◌, ◌+◌, ◌*◌, ℕ, length}
use Rattle.bc_loans.specs.Sweeps.{HasSet, AreTargets}
use Rattle.bc_loans.proofs.sweeps.first_reached.Given as goal

abbrev pub invariant-loop-k : goal.invariant-loop-k
invariant-loop-k l = record {
  set : HasSet (length l.flow.steps.now) l.reached;
  targets : (j : ℕ) → j < l.k → AreTargets l.flow.edges.now l.flow.set.loans.now (64 * l.word + j) l.reached;
}
