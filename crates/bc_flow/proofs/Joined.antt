-- A word of a row, joined with another.
use Rattle.std.proofs.Common.{◌≡◌, ℕ, ◌+◌, ◌*◌, ◌/◌, ◌%◌, ◌^◌, ◌<◌, ◌≤◌, inl, inr, Bool, true, false, not, ◌||◌, ◌&&◌, eqb, List, length, min, w64, sym, ap, ◌∙◌, arith}
use Rattle.std.specs.Prelude.{bit_or, bit_and}
use Rattle.std.specs.Int.{bit_at, bit_not}
use Rattle.std.proofs.Math.Bool.{or-false}
use Rattle.std.proofs.lemmas.Bool.{cases_eq, cases_lt, eq-eqb, ne_eqb, or_from, or_left}
use Rattle.std.proofs.lemmas.List.{get_or_past}
use Rattle.std.proofs.lemmas.Nat.Bits.{bit_at-lt, bit_at_or, bit_at_and, bit_at_not, same_from_bits_below}
use Rattle.bc_flow.specs.BitSet.{has, absent_count}
use Rattle.bc_flow.specs.Packed.{is_set, word_has}
use Rattle.bc_flow.proofs.Members.{or_bits, and_bits, without_bits, same_bit, same_from_absent}

pub is_set_or : (a b i : ℕ) → is_set (bit_or a b) i ≡ (is_set a i || is_set b i)
is_set_or a b i = ap (λ v. eqb v 1) (bit_at_or a b i) ∙ or_bits (bit_at a i) (bit_at b i) (bit_at-lt a i) (bit_at-lt b i)

pub is_set_and : (a b i : ℕ) → is_set (bit_and a b) i ≡ (is_set a i && is_set b i)
is_set_and a b i = ap (λ v. eqb v 1) (bit_at_and a b i) ∙ and_bits (bit_at a i) (bit_at b i) (bit_at-lt a i) (bit_at-lt b i)

pub is_set_without : (a b i : ℕ) → b < 2 ^ 64 → i < 64 → is_set (bit_and a (bit_not w64 b)) i ≡ (is_set a i && not (is_set b i))
is_set_without a b i fits few =
    ap (λ v. eqb v 1) (bit_at_and a (bit_not w64 b) i ∙ ap (λ v. min (bit_at a i) v) (bit_at_not w64 b i fits few)) ∙ without_bits (bit_at a i) (bit_at b i) (bit_at-lt a i) (bit_at-lt b i)

-- the joined word has no number past the size
pub joined_clean : (index before word : ℕ) (set : List Bool) → ((i : ℕ) → i / 64 ≡ index → has set i ≡ is_set before (i % 64)) → ((i : ℕ) → i / 64 ≡ index → length set ≤ i → is_set word (i % 64) ≡ false) →
    (i : ℕ) → i / 64 ≡ index → length set ≤ i → is_set (bit_or before word) (i % 64) ≡ false
joined_clean index before word set read clean i at past =
    is_set_or before word (i % 64) ∙ or_from (is_set before (i % 64)) (is_set word (i % 64)) (sym (read i at) ∙ get_or_past set i false past) (clean i at past)

-- the numbers of the word were added
pub joined_members : (index before word after : ℕ) (old new : ℕ → Bool) → after ≡ bit_or before word → ((i : ℕ) → i / 64 ≡ index → old i ≡ is_set before (i % 64)) → ((i : ℕ) → i / 64 ≡ index → new i ≡ is_set after (i % 64)) →
    ((i : ℕ) → (i / 64 ≡ index → ⊥) → new i ≡ old i) → (i : ℕ) → new i ≡ (old i || word_has index word i)
joined_members index before word after old new joined read written rest i = elim (cases_eq (i / 64) index) [
  | inl at ↦
      written i at ∙ ap (λ (w : ℕ). is_set w (i % 64)) joined ∙ is_set_or before word (i % 64) ∙ ap (λ (b : Bool). b || is_set word (i % 64)) (sym (read i at))
      ∙ ap (λ (b : Bool). old i || (b && is_set word (i % 64))) (sym (eq-eqb (i / 64) index at))
  | inr apart ↦ rest i apart ∙ sym (ap (λ (b : Bool). old i || (b && is_set word (i % 64))) (ne_eqb (i / 64) index apart) ∙ or-false (old i))
]

-- a set with more members in another word lacks fewer
pub joined_grown : (index before after : ℕ) (old new : List Bool) → before < 2 ^ 64 → after < 2 ^ 64 → length new ≡ length old → ((i : ℕ) → has old i ≡ true → has new i ≡ true) →
    ((i : ℕ) → i / 64 ≡ index → has old i ≡ is_set before (i % 64)) → ((i : ℕ) → i / 64 ≡ index → has new i ≡ is_set after (i % 64)) → (after ≡ before → ⊥) → absent_count new < absent_count old
joined_grown index before after old new small_before small_after size more read written differs = elim (cases_lt (absent_count new) (absent_count old)) [
  | inl less ↦ less
  | inr not_less ↦
      let same : old ≡ new = (same_from_absent old new (sym size) more).1 not_less in
      absurd (differs (same_from_bits_below 64 after before small_after small_before (λ r few.
      let place : (64 * index + r) / 64 ≡ index = omega (arith, few) in
      let at : (64 * index + r) % 64 ≡ r = omega (arith, few) in
      let bits : is_set after ((64 * index + r) % 64) ≡ is_set before ((64 * index + r) % 64) = sym (written (64 * index + r) place) ∙ (ap (λ (s : List Bool). has s (64 * index + r)) (sym same) ∙ read (64 * index + r) place) in
      same_bit (bit_at after r) (bit_at before r) (bit_at-lt after r) (bit_at-lt before r) (rw at at bits))))
]

pub joined_more : (old new added : ℕ → Bool) → ((i : ℕ) → new i ≡ (old i || added i)) → (i : ℕ) → old i ≡ true → new i ≡ true
joined_more old new added members i h = members i ∙ or_left (old i) (added i) h
