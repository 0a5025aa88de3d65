use Rattle.std.proofs.Common.{inl, inr, ap, sym, ◌∙◌, eqb, arith}
use Rattle.std.proofs.lemmas.Nat.{one_shl}
use Rattle.std.proofs.lemmas.Nat.Bits.{bit_at_ones, bit_at_ones_above}
use Rattle.std.proofs.lemmas.Bool.{cases_lt, lt-ltb, le-ltb}
use Rattle.bc_flow.proofs.bit_words.first_bits.Goals as goal

pub returns-then-count-lt64 : goal.returns-then-count-lt64
returns-then-count-lt64 c = λ i h. rw (one_shl c.args.count 64 c.if-count-lt64.true) (elim (cases_lt i c.args.count) [
  | inl below ↦ ap (λ b. eqb b 1) (bit_at_ones c.args.count i below) ∙ sym (lt-ltb i c.args.count below)
  | inr above ↦ ap (λ b. eqb b 1) (bit_at_ones_above c.args.count i above) ∙ sym (le-ltb i c.args.count above)
])

pub returns-else-count-lt64 : goal.returns-else-count-lt64
returns-else-count-lt64 c = λ i h. ap (λ b. eqb b 1) (bit_at_ones 64 i h) ∙ sym (lt-ltb i c.args.count (omega (arith, h, c.if-count-lt64.false)))
