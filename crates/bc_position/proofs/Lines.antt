-- The first lines of a text, byte by byte.
use Rattle.std.proofs.Common.{◌≡◌, ◌<◌, ℕ, zero, suc, ◌+◌, ◌-◌, ◌==◌, List, [], ◌∷◌, length, get_or, drop, true, false, refl, sym, ap, ◌∙◌, one-add, add-one, drop-cons, arith}
use Rattle.std.proofs.lemmas.Bool.{eq-eqb, ne_eqb}
use Rattle.std.specs.Prelude.{◌≢◌}
use native.Mathlib.Numerals.{unary_clauses}
use Rattle.bc_position.specs.Positions.{first_lines}

pub first_lines_none : (lines : ℕ) → first_lines lines [] ≡ []
first_lines_none zero = refl
first_lines_none (suc lines) = first_lines_none lines

-- a line feed ends a line
ended : (lines b : ℕ) (text : List ℕ) → lines ≢ 0 → b == 10 ≡ true → length (first_lines lines (b ∷ text)) ≡ 1 + length (first_lines (lines - 1) text)
ended zero b text some feed = absurd (some refl)
ended (suc lines) b text some feed = rw feed (simp unary_clauses (sym (one-add (length (first_lines lines text)))))

-- another byte ends no line
goes_on : (lines b : ℕ) (text : List ℕ) → lines ≢ 0 → b == 10 ≡ false → length (first_lines lines (b ∷ text)) ≡ 1 + length (first_lines lines text)
goes_on zero b text some other = absurd (some refl)
goes_on (suc lines) b text some other = rw other (sym (one-add (length (first_lines (suc lines) text))))

next : (text : List ℕ) (i : ℕ) → i < length text → drop i text ≡ get_or text i 0 ∷ drop (i + 1) text
next text i within = rw (add-one i) (drop-cons text i 0 within)

-- the count after a line feed, and after another byte
pub count_end : (text : List ℕ) (i left left' all : ℕ) → i < length text → left ≢ 0 → get_or text i 0 ≡ 10 → left' ≡ left - 1
    → all ≡ i + length (first_lines left (drop i text)) → all ≡ (i + 1) + length (first_lines left' (drop (i + 1) text))
count_end text i left left' all within some feed less h =
    let one = ap (λ (t : List ℕ). length (first_lines left t)) (next text i within) ∙ ended left (get_or text i 0) (drop (i + 1) text) some (eq-eqb (get_or text i 0) 10 feed) in
    rw less (omega (arith, h, one))

pub count_on : (text : List ℕ) (i left left' all : ℕ) → i < length text → left ≢ 0 → get_or text i 0 ≢ 10 → left' ≡ left
    → all ≡ i + length (first_lines left (drop i text)) → all ≡ (i + 1) + length (first_lines left' (drop (i + 1) text))
count_on text i left left' all within some other same h =
    let one = ap (λ (t : List ℕ). length (first_lines left t)) (next text i within) ∙ goes_on left (get_or text i 0) (drop (i + 1) text) some (ne_eqb (get_or text i 0) 10 other) in
    rw same (omega (arith, h, one))
