use Rattle.std.proofs.Common.{◌%◌, ℕ, Bool, List, eqb, ap, sym, ◌∙◌}
use Rattle.std.proofs.lemmas.Nat.Bits.{bit_at-zero}
use Rattle.bc_flow.specs.BitSet.{has}
use Rattle.bc_loans.proofs.insides.value_word.Goals as goal

pub returns-in-Some : goal.returns-in-Some
returns-in-Some c = λ p at. c.word.ensures p at ∙ ap (λ (s : List Bool). has s p) c.in-Some.ensures

pub returns-in-None : goal.returns-in-None
returns-in-None c = λ p _. ap (λ (v : ℕ). eqb v 1) (bit_at-zero (p % 64)) ∙ sym (c.in-None.ensures p)
