-- The value of digits, and what a token keeps of it.
use Rattle.std.proofs.Common.{◌≡◌, ℕ, ◌+◌, ◌-◌, ◌*◌, ◌^◌, ◌<◌, ◌≤◌, Bool, true, false, cond, List, length, get_or, take, Some, None, Ok, Err, refl, ap, ◌∙◌, arith, inl, inr}
use Rattle.std.specs.Prelude.{Option, is_some, nat_le}
use Rattle.std.proofs.lemmas.Bool.Decides.{nat_tests}
use Rattle.std.proofs.lemmas.List.Sums.{fold_more}
use Rattle.bc_syntax.specs.declared.numbering.Numbering.{Numbering as Numberings}
use Rattle.bc_tokens.specs.declared.refusal.Refusal.TheVariants.{Limit}
use Rattle.bc_syntax.specs.Token.{Token, Fixed, Numbered, Word, Region, NotAscii, Stray, End}
use Rattle.bc_tokens.specs.Token.{Tokens, Counts, value}
use Rattle.bc_tokens.specs.Parser.{first, after, position, fault, number_in, same_numbering, sees_numbered, numbered_to, numbered}

abbrev step : ℕ → ℕ → ℕ
step n b = n * 10 + (b - 48)

one_more : (digits : List ℕ) (i : ℕ) → i < length digits → value (take (i + 1) digits) ≡ value (take i digits) * 10 + (get_or digits i 0 - 48)
one_more digits i lt = fold_more step 0 digits i 0 lt

-- one more digit, if the value so far is less than 2^32
pub counts_more : (digits : List ℕ) (i number : ℕ) → i < length digits → Counts number (value (take i digits)) → number < 2 ^ 32
    → Counts (number * 10 + (get_or digits i 0 - 48)) (value (take (i + 1) digits))
counts_more digits i number lt (inl e) small = inl (omega (arith, e, one_more digits i lt))
counts_more digits i number lt (inr p) small = absurd (omega (arith, p.0, small))

-- a large number stays as it is
pub counts_still : (digits : List ℕ) (i number : ℕ) → i < length digits → Counts number (value (take i digits)) → 2 ^ 32 ≤ number → Counts number (value (take (i + 1) digits))
counts_still digits i number low (inl same) large = inr (large, omega (arith, one_more digits i low, same, large))
counts_still digits i number low (inr both) large = inr (large, omega (arith, one_more digits i low, both.1))

-- what `value_within` returns for a number
abbrev Told : ℕ → ℕ → Option ℕ → Type 0
Told limit n found = found ≡ cond (nat_le n limit) (Some n) None

within_is : (limit n v : ℕ) → Told limit n (Some v) → (nat_le n limit ≡ true) × (n ≡ v) × (v ≤ limit)
within_is limit n v told = by (nat_le n limit) refl told
  where
    by : (b : Bool) → nat_le n limit ≡ b → Some v ≡ cond b (Some n) None → (nat_le n limit ≡ true) × (n ≡ v) × (v ≤ limit)
    by true e f =
        let same : n ≡ v = cc in
        let le : n ≤ limit = grind (arith, nat_tests, e) in
        (e, same, omega (arith, same, le))
    by false e f = absurd cc

past_is : (limit n : ℕ) → Told limit n None → nat_le n limit ≡ false
past_is limit n told = by (nat_le n limit) refl told
  where
    by : (b : Bool) → nat_le n limit ≡ b → None ≡ cond b (Some n) None → nat_le n limit ≡ false
    by true e f = absurd cc
    by false e f = e

-- the number of a token of a numbering
number_of : (numbering : Numberings) (t : Token) → is_some (number_in numbering t) ≡ true → (found : Numberings) × (n : ℕ) × (t ≡ Numbered found n) × (number_in numbering t ≡ Some n)
number_of numbering (Numbered found n) seen = by (same_numbering found numbering) refl seen
  where
    by : (b : Bool) → same_numbering found numbering ≡ b → is_some (cond b (Some n) None) ≡ true
        → (found2 : Numberings) × (n2 : ℕ) × (Numbered found n ≡ Numbered found2 n2) × (number_in numbering (Numbered found n) ≡ Some n2)
    by true e s = (found, n, refl, ap (λ (b : Bool). cond b (Some n) None) e)
    by false e s = absurd cc
number_of numbering (Fixed symbol) seen = absurd cc
number_of numbering (Word name) seen = absurd cc
number_of numbering (Region name) seen = absurd cc
number_of numbering NotAscii seen = absurd cc
number_of numbering Stray seen = absurd cc
number_of numbering End seen = absurd cc

-- a number within the limit
pub number_reads : (numbering : Numberings) (limit v : ℕ) (ts : Tokens) → sees_numbered numbering ts ≡ true
    → ((found : Numberings) → (n : ℕ) → (first ts).token ≡ Numbered found n → Told limit n (Some v)) → (numbered numbering limit ts ≡ Ok (v, after ts)) × (v ≤ limit)
unfolding sees_numbered numbered
number_reads numbering limit v ts seen told =
    let h = number_of numbering (first ts).token seen in
    let n = h.1 in
    let w = within_is limit n v (told h.0 n h.2) in (
      ap (λ (o : Option ℕ). numbered_to limit o ts) h.3
          ∙ ap (λ (b : Bool). cond b (Ok (n, after ts)) (Err (Limit (position ts)))) w.0
          ∙ ap (λ k. Ok (k, after ts)) w.1,
      w.2,
    )

-- a number past the limit
pub number_past : (numbering : Numberings) (limit : ℕ) (ts : Tokens) → sees_numbered numbering ts ≡ true
    → ((found : Numberings) → (n : ℕ) → (first ts).token ≡ Numbered found n → Told limit n None) → numbered numbering limit ts ≡ Err (Limit (position ts))
unfolding sees_numbered numbered
number_past numbering limit ts seen told =
    let h = number_of numbering (first ts).token seen in
    let n = h.1 in
    ap (λ (o : Option ℕ). numbered_to limit o ts) h.3
    ∙ ap (λ (b : Bool). cond b (Ok (n, after ts)) (Err (Limit (position ts)))) (past_is limit n (told h.0 n h.2))

-- a token that is not of the numbering
pub number_missed : (numbering : Numberings) (limit : ℕ) (ts : Tokens) → sees_numbered numbering ts ≡ false → numbered numbering limit ts ≡ Err (fault ts)
unfolding sees_numbered numbered
number_missed numbering limit ts unseen = by (number_in numbering (first ts).token) unseen
  where
    by : (o : Option ℕ) → is_some o ≡ false → numbered_to limit o ts ≡ Err (fault ts)
    by None e = refl
    by (Some n) e = absurd cc
