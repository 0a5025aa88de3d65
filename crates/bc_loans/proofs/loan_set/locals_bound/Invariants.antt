use Rattle.std.proofs.Common.{◌<◌, ◌≤◌, ℕ, take}
use Rattle.std.specs.List.{All}
use Rattle.bc_points.specs.declared.loan.Loan.{Loan}
use Rattle.bc_loans.proofs.loan_set.locals_bound.Given as goal

abbrev pub invariant-loop-made : goal.invariant-loop-made
invariant-loop-made l = record {
  small : l.bound ≤ 256;
  below : All (λ (made : ℕ × Loan). made.1.path.local < l.bound) (take l.made-index l.loans);
}
