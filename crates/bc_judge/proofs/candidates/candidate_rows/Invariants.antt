use Rattle.std.proofs.Common.{◌≡◌, ◌+◌, ◌*◌, ◌<◌, ℕ, length}
use Rattle.std.specs.List.{All}
use Rattle.bc_points.specs.declared.loan.Loan.{Loan}
use Rattle.bc_flow.specs.Flow.{row}
use Rattle.bc_judge.proofs.Locals.{HaveCandidatesBelow}
use Rattle.bc_judge.proofs.candidates.candidate_rows.Given as goal

abbrev pub invariant-loop-number : goal.invariant-loop-number
invariant-loop-number l = record {
  rows : All (λ (made : ℕ × Loan). 2 * made.1.path.local + 1 < length l.rows) l.loans;
  sizes : (n : ℕ) → n < length l.rows → length (row l.rows n) ≡ length l.loans;
  added : HaveCandidatesBelow l.number l.loans l.rows;
}
