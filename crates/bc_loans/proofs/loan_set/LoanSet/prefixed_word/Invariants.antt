use Rattle.std.proofs.Common.{◌≡◌, ◌/◌, ◌%◌, ℕ}
use Rattle.bc_flow.specs.Packed.{is_set}
use Rattle.bc_loans.specs.Overwrites.{has_prefix}
use Rattle.bc_loans.proofs.Overwriting.{cut}
use Rattle.bc_loans.proofs.loan_set.LoanSet.prefixed_word.Given as goal

abbrev pub invariant-loop-depth : goal.invariant-loop-depth
invariant-loop-depth l = (k : ℕ) → k / 64 ≡ l.word → is_set l.found (k % 64) ≡ has_prefix l.self.loans.now (cut l.place l.depth) k
