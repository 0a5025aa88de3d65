use Rattle.std.proofs.Common.{◌≤◌, ℕ, length, take}
use Rattle.std.specs.List.{All}
use Rattle.bc_points.specs.declared.loan.Loan.{Loan}
use Rattle.bc_loans.proofs.loan_set.depth_bound.Given as goal

abbrev pub invariant-loop-made : goal.invariant-loop-made
invariant-loop-made l = All (λ (made : ℕ × Loan). length made.1.path.projections ≤ l.bound) (take l.made-index l.loans)
