-- What the search for a line feed finds.
use Rattle.std.proofs.Common.{◌≡◌, ◌≢◌, ℕ, zero, suc, ◌+◌, ◌-◌, ◌<◌, List, [], ◌∷◌, length, take, drop, Some, None, slice_index, refl, sym, ap, ◌∙◌, arith, take_all, length-drop}
use Rattle.std.specs.Io.BufRead.{take_through, drop_through}
use Rattle.std.proofs.lemmas.Bool.{cond-true, cond-false, eq-eqb, eqb-true, ne_eqb}
use Rattle.memchr.specs.Find.{IsFirstByte, is_byte}
use Rattle.cli_file.specs.Parts.{without_end}

-- a slice up to the end is what is left after its beginning
pub slice_to_end : (text : List ℕ) (from : ℕ) → take (length text - from) (drop from text) ≡ drop from text
slice_to_end text from = take_all (length text - from) (drop from text) (omega (arith, length-drop from text))

-- the first line ends with the byte at this place
pub record EndsAt (bytes : List ℕ) (end : ℕ) : Type 0 where
  pub line : without_end bytes ≡ take end bytes
  pub through : take_through 10 bytes ≡ take (suc end) bytes
  pub rest : drop_through 10 bytes ≡ drop (suc end) bytes

-- there is no line feed: the first line is all
pub record HasNoFeed (bytes : List ℕ) : Type 0 where
  pub line : without_end bytes ≡ bytes
  pub through : take_through 10 bytes ≡ bytes
  pub rest : drop_through 10 bytes ≡ []

ends_at : (bytes : List ℕ) (end : ℕ) → end < length bytes → slice_index bytes end ≡ 10 → ((k : ℕ) → k < end → slice_index bytes k ≢ 10) → EndsAt bytes end
ends_at [] end within feed before = absurd (omega arith)
ends_at (b ∷ bytes) zero within feed before =
    let is = eq-eqb b 10 feed in
    record { line = cond-true _ _ _ is; through = cond-true _ _ _ is; rest = cond-true _ _ _ is }
ends_at (b ∷ bytes) (suc end) within feed before =
    let other = ne_eqb b 10 (before 0 (omega arith)) in
    let later = ends_at bytes end (omega arith) feed (λ k below. before (suc k) (omega arith)) in
    record {
      line = cond-false _ _ _ other ∙ ap (λ (t : List ℕ). b ∷ t) later.line;
      through = cond-false _ _ _ other ∙ ap (λ (t : List ℕ). b ∷ t) later.through;
      rest = cond-false _ _ _ other ∙ later.rest;
    }

has_no_feed : (bytes : List ℕ) → ((k : ℕ) → k < length bytes → slice_index bytes k ≢ 10) → HasNoFeed bytes
has_no_feed [] none = record { line = refl; through = refl; rest = refl }
has_no_feed (b ∷ bytes) none =
    let other = ne_eqb b 10 (none 0 (omega arith)) in
    let later = has_no_feed bytes (λ k below. none (suc k) (omega arith)) in
    record {
      line = cond-false _ _ _ other ∙ ap (λ (t : List ℕ). b ∷ t) later.line;
      through = cond-false _ _ _ other ∙ ap (λ (t : List ℕ). b ∷ t) later.through;
      rest = cond-false _ _ _ other ∙ later.rest;
    }

pub found_feed : (bytes : List ℕ) (end : ℕ) → IsFirstByte (is_byte 10) bytes (Some end) → EndsAt bytes end
found_feed bytes end found =
    ends_at bytes end found.0.high (eqb-true _ _ found.1) (λ k below is. found.0.before k (omega arith) below (eq-eqb _ _ is))

pub found_none : (bytes : List ℕ) → IsFirstByte (is_byte 10) bytes None → HasNoFeed bytes
found_none bytes none = has_no_feed bytes (λ k below is. none k (omega arith) below (eq-eqb _ _ is))

-- the code's spelling of what is after the line feed
pub cut_behind : (bytes : List ℕ) (end : ℕ) → IsFirstByte (is_byte 10) bytes (Some end) → take (length bytes - (end + 1)) (drop (end + 1) bytes) ≡ drop_through 10 bytes
cut_behind bytes end found =
    let same : end + 1 ≡ suc end = omega arith in
    slice_to_end bytes (end + 1) ∙ ap (λ (k : ℕ). drop k bytes) same ∙ sym (found_feed bytes end found).rest
