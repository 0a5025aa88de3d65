-- A file of header lines, each followed by a line of text, is cut into them again.
use Rattle.std.proofs.Common.{◌≡◌, ℕ, ◌+◌, true, false, List, [], ◌∷◌, ◌++◌, refl, ap, ◌∙◌, append_assoc, append-nil, inl, inr, arith}
use Rattle.std.specs.Prelude.{◌==◌}
use Rattle.std.specs.List.{list_all, onto_first}
use Rattle.std.proofs.lemmas.Bool.{cases_Bool, and_parts}
use Rattle.cli_file.specs.Parts.{Part, Parts, is_header, parts, opened, sections_from, lines_of, without_end}
use Rattle.cli_print_laws.proofs.Ink.{is_ink, IsInk}

-- a header line and the line of its text, without their line feeds
abbrev pub LinePair : Type 0
LinePair = List ℕ × List ℕ

-- each is one line, and only the first is a header line
abbrev pub IsLinePair : LinePair → Type 0
IsLinePair p = IsInk p.0 × IsInk p.1 × (is_header (p.0 ++ 10 ∷ []) ≡ true) × (is_header (p.1 ++ 10 ∷ []) ≡ false)

abbrev pub AreLinePairs : List LinePair → Type 0
AreLinePairs [] = Unit {0}
AreLinePairs (p ∷ ps) = IsLinePair p × AreLinePairs ps

-- pieces, one after another
abbrev pub put : List LinePair → List ℕ
put [] = []
put (p ∷ ps) = (p.0 ++ 10 ∷ []) ++ ((p.1 ++ 10 ∷ []) ++ put ps)

-- their sections, the first of which begins at this line
abbrev pub anew : ℕ → List LinePair → List Part
anew number [] = []
anew number (p ∷ ps) = record { line = number; header = p.0; text = p.1 ++ 10 ∷ [] } ∷ anew (number + 2) ps

ink_is : (b : ℕ) → is_ink b ≡ true → (b == 10) ≡ false
ink_is b ink = elim (cases_Bool (b == 10)) [
  | inl feed ↦ absurd (let e = rw feed at ink in cc)
  | inr other ↦ other
]

-- a line and what follows it
line_goes : (xs rest : List ℕ) → IsInk xs → lines_of (xs ++ 10 ∷ rest) ≡ (xs ++ 10 ∷ []) ∷ lines_of rest
line_goes [] rest ink = refl
line_goes (b ∷ xs) rest ink =
    let p = and_parts (is_ink b) (list_all is_ink xs) ink in
    rw (ink_is b p.0) (ap (onto_first b) (line_goes xs rest p.1))

without_end_is : (xs : List ℕ) → IsInk xs → without_end (xs ++ 10 ∷ []) ≡ xs
without_end_is [] ink = refl
without_end_is (b ∷ xs) ink =
    let p = and_parts (is_ink b) (list_all is_ink xs) ink in
    rw (ink_is b p.0) (ap (λ (l : List ℕ). b ∷ l) (without_end_is xs p.1))

abbrev nothing_more : List Part → Parts
nothing_more sections = record { text = []; sections = sections }

-- a section at the front, after whose text the next one begins
section_opens : (n : ℕ) (h t : List ℕ) (lines : List (List ℕ)) (later : List Part) → IsInk h → is_header (t ++ 10 ∷ []) ≡ false → parts (n + 2) lines ≡ nothing_more later
    → opened n (h ++ 10 ∷ []) (parts (n + 1) ((t ++ 10 ∷ []) ∷ lines)) ≡ record { line = n; header = h; text = t ++ 10 ∷ [] } ∷ later
section_opens n h t lines later ink plain rest =
    let two : (n + 1) + 1 ≡ n + 2 = omega arith in
    rw (plain, two, rest, without_end_is h ink) (ap (λ (text : List ℕ). record { line = n; header = h; text = text } ∷ later) (append-nil (t ++ 10 ∷ [])))

put_lines : (p : LinePair) (rest : List ℕ) → IsLinePair p → lines_of ((p.0 ++ 10 ∷ []) ++ ((p.1 ++ 10 ∷ []) ++ rest)) ≡ (p.0 ++ 10 ∷ []) ∷ (p.1 ++ 10 ∷ []) ∷ lines_of rest
put_lines p rest whole =
    ap lines_of (append_assoc p.0 (10 ∷ []) ((p.1 ++ 10 ∷ []) ++ rest))
    ∙ line_goes p.0 ((p.1 ++ 10 ∷ []) ++ rest) whole.0
    ∙ ap (λ (l : List ℕ). (p.0 ++ 10 ∷ []) ∷ lines_of l) (append_assoc p.1 (10 ∷ []) rest)
    ∙ ap (λ (ls : List (List ℕ)). (p.0 ++ 10 ∷ []) ∷ ls) (line_goes p.1 rest whole.1)

-- no text comes before the first header line
put_parts : (n : ℕ) (ps : List LinePair) → AreLinePairs ps → parts n (lines_of (put ps)) ≡ nothing_more (anew n ps)
put_parts n [] whole = refl
put_parts n (p ∷ ps) whole =
    ap (parts n) (put_lines p (put ps) whole.0)
    ∙ rw (whole.0.2) (ap nothing_more (section_opens n p.0 p.1 (lines_of (put ps)) (anew (n + 2) ps) whole.0.0 whole.0.3 (put_parts (n + 2) ps whole.1)))

pub put_sections : (n : ℕ) (ps : List LinePair) → AreLinePairs ps → sections_from n (lines_of (put ps)) ≡ anew n ps
put_sections n [] whole = refl
put_sections n (p ∷ ps) whole =
    ap (sections_from n) (put_lines p (put ps) whole.0)
    ∙ section_opens n p.0 p.1 (lines_of (put ps)) (anew (n + 2) ps) whole.0.0 whole.0.3 (put_parts (n + 2) ps whole.1)

-- header lines

without_end_ink : (line : List ℕ) → IsInk (without_end line)
without_end_ink [] = refl
without_end_ink (b ∷ bytes) = elim (cases_Bool (b == 10)) [
  | inl feed ↦ rw feed refl
  | inr other ↦ rw (other, other) (without_end_ink bytes)
]

abbrev InkHeader : Part → Type 0
InkHeader p = IsInk p.header

abbrev pub InkHeaders : List Part → Type 0
InkHeaders [] = Unit {0}
InkHeaders (p ∷ ps) = InkHeader p × InkHeaders ps

parts_ink : (n : ℕ) (lines : List (List ℕ)) → InkHeaders (parts n lines).sections
parts_ink n [] = tt
parts_ink n (line ∷ lines) = elim (cases_Bool (is_header line)) [
  | inl header ↦ rw header (without_end_ink line, parts_ink (n + 1) lines)
  | inr other ↦ rw other (parts_ink (n + 1) lines)
]

pub sections_ink : (n : ℕ) (lines : List (List ℕ)) → InkHeaders (sections_from n lines)
sections_ink n [] = tt
sections_ink n (line ∷ lines) = (without_end_ink line, parts_ink (n + 1) lines)
