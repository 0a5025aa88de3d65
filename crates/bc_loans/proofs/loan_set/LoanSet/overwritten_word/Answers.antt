use Rattle.std.proofs.Common.{◌%◌, ℕ, eqb, ap, sym, ◌∙◌}
use Rattle.std.proofs.lemmas.Nat.Bits.{bit_at-zero}
use Rattle.bc_loans.proofs.Overwriting.{place_overwritten, nothing_overwritten}
use Rattle.bc_loans.proofs.loan_set.LoanSet.overwritten_word.Goals as goal

pub returns-in-Some : goal.returns-in-Some
returns-in-Some c = λ l at. c.prefixed_word.ensures l at ∙ place_overwritten c.args.self.now.loans.now c.args.instruction.now c.in-Some.place c.in-Some.ensures l

pub returns-in-None : goal.returns-in-None
returns-in-None c = λ l _. ap (λ (v : ℕ). eqb v 1) (bit_at-zero (l % 64)) ∙ sym (nothing_overwritten c.args.self.now.loans.now c.args.instruction.now c.in-None.ensures l)
