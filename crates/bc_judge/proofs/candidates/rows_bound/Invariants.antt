use Rattle.std.proofs.Common.{◌<◌, ◌≤◌, ◌+◌, ◌*◌, ℕ, take}
use Rattle.std.specs.List.{All}
use Rattle.bc_points.specs.declared.loan.Loan.{Loan}
use Rattle.bc_judge.proofs.candidates.rows_bound.Given as goal

abbrev pub invariant-loop-made : goal.invariant-loop-made
invariant-loop-made l = record {
  small : l.bound ≤ 512;
  below : All (λ (made : ℕ × Loan). 2 * made.1.path.local + 1 < l.bound) (take l.made-index l.loans);
}
