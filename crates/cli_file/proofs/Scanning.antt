-- The search for the next header line, from line feed to line feed.
use Rattle.std.proofs.Common.{◌≡◌, ◌≢◌, ℕ, suc, ◌+◌, ◌-◌, ◌<◌, ◌≤◌, true, false, cond, List, [], ◌∷◌, ◌++◌, length, take, drop, Some, None, slice_index, refl, sym, ap, subst, ◌∙◌, arith, append_assoc, append-nil, take_all, take-add, drop-drop, length-drop, get_or, get_or-drop, take-append-drop}
use Rattle.std.specs.Prelude.{◌==◌}
use Rattle.std.specs.Io.BufRead.{take_through, drop_through}
use Rattle.std.proofs.lemmas.Bool.{cond-true, cond-false, eq-eqb, ne_eqb}
use Rattle.std.proofs.lemmas.List.{drop_all}
use Rattle.memchr.specs.Find.{IsFirstByte, is_byte}
use Rattle.cli_file.specs.Parts.{Part, Parts, lines_of, is_header, parts, sections_from}
use Rattle.cli_file.proofs.Feeds.{slice_to_end, found_feed, found_none}
use Rattle.cli_file.proofs.Lines.{lines_of_first}

-- these sections after this text
abbrev pub before : List Part → List ℕ → Parts
before sections text = record { text = text; sections = sections }

-- a text in front of what is left
abbrev pub behind : List ℕ → Parts → Parts
behind text p = before p.sections (text ++ p.text)

-- the parts of a text are what was passed and the parts of what is left, whose first line has this number
abbrev pub IsPassed : ℕ → List ℕ → ℕ → ℕ → Type 0
IsPassed first text at number = parts first (lines_of text) ≡ behind (take at text) (parts number (lines_of (drop at text)))

-- the parts of a text end before this place, where the line of this number begins
abbrev pub IsCutAt : ℕ → List ℕ → ℕ → ℕ → Type 0
IsCutAt first text at number = parts first (lines_of text) ≡ before (sections_from number (lines_of (drop at text))) (take at text)

-- a line that begins no section, and one that does
text_line : (number : ℕ) (line : List ℕ) (lines : List (List ℕ)) → is_header line ≡ false → parts number (line ∷ lines) ≡ behind line (parts (number + 1) lines)
text_line number line lines other = cond-false _ _ _ other

header_line : (number : ℕ) (line : List ℕ) (lines : List (List ℕ)) → is_header line ≡ true → parts number (line ∷ lines) ≡ before (sections_from number (line ∷ lines)) []
header_line number line lines is = cond-true _ _ _ is

-- the first line begins with the first byte
first_line : (b : ℕ) (bytes : List ℕ) → is_header (take_through 10 (b ∷ bytes)) ≡ (b == 64)
first_line b bytes =
    elim (b == 10) as (λ t. (slice_index (cond t (b ∷ []) (b ∷ take_through 10 bytes)) 0 == 64) ≡ (b == 64)) [ true ↦ refl | false ↦ refl ]

-- the first line is passed
line_passed : (number : ℕ) (bytes : List ℕ) → 0 < length bytes → slice_index bytes 0 ≢ 64 → parts number (lines_of bytes) ≡ behind (take_through 10 bytes) (parts (number + 1) (lines_of (drop_through 10 bytes)))
line_passed number [] some other = absurd (omega arith)
line_passed number (b ∷ bytes) some other =
    ap (parts number) (lines_of_first b bytes)
    ∙ text_line number (take_through 10 (b ∷ bytes)) (lines_of (drop_through 10 (b ∷ bytes))) (first_line b bytes ∙ ne_eqb b 64 other)

-- the first line begins a section
header_found : (number : ℕ) (bytes : List ℕ) → 0 < length bytes → slice_index bytes 0 ≡ 64 → parts number (lines_of bytes) ≡ before (sections_from number (lines_of bytes)) []
header_found number [] some is = absurd (omega arith)
header_found number (b ∷ bytes) some is =
    ap (parts number) (lines_of_first b bytes)
    ∙ header_line number (take_through 10 (b ∷ bytes)) (lines_of (drop_through 10 (b ∷ bytes))) (first_line b bytes ∙ eq-eqb b 64 is)
    ∙ ap (λ (lines : List (List ℕ)). before (sections_from number lines) []) (sym (lines_of_first b bytes))

-- what is left at a place within a text
left_some : (text : List ℕ) (at : ℕ) → at < length text → 0 < length (drop at text)
left_some text at within = omega (arith, length-drop at text)

left_first : (text : List ℕ) (at : ℕ) → slice_index (drop at text) 0 ≡ slice_index text at
left_first text at =
    let same : at + 0 ≡ at = omega arith in
    get_or-drop at text 0 0 ∙ ap (λ (k : ℕ). get_or text k 0) same

behind_both : (s t : List ℕ) (p : Parts) → behind s (behind t p) ≡ behind (s ++ t) p
behind_both s t p = ap (before p.sections) (sym (append_assoc s t p.text))

-- if all is passed, the text is cut at its end
cut_at_end : (number : ℕ) (text : List ℕ) → before [] text ≡ before (sections_from number (lines_of (drop (length text) text))) (take (length text) text)
cut_at_end number text =
    ap (before []) (sym (take_all (length text) text (omega arith)))
    ∙ ap (λ (t : List ℕ). before (sections_from number (lines_of t)) (take (length text) text)) (sym (drop_all (length text) text (omega arith)))

module _ (first : ℕ) (text : List ℕ) (at number : ℕ) where
  -- the next line begins a section
  pub cut_at_header : IsPassed first text at number → at < length text → slice_index text at ≡ 64 → IsCutAt first text at number
  cut_at_header passed within is =
      passed
      ∙ ap (behind (take at text)) (header_found number (drop at text) (left_some text at within) (left_first text at ∙ is))
      ∙ ap (before (sections_from number (lines_of (drop at text)))) (append-nil (take at text))

  -- nothing is left
  pub cut_behind_all : IsPassed first text at number → length text ≤ at → IsCutAt first text (length text) number
  cut_behind_all passed all =
      passed
      ∙ ap (λ (t : List ℕ). behind (take at text) (parts number (lines_of t))) (drop_all at text all)
      ∙ ap (before []) (append-nil (take at text) ∙ take_all at text all)
      ∙ cut_at_end number text

  -- the next line has no line feed, and is the last one
  pub cut_behind_last : IsPassed first text at number → at < length text → slice_index text at ≢ 64
      → IsFirstByte (is_byte 10) (take (length text - at) (drop at text)) None → IsCutAt first text (length text) number
  cut_behind_last passed within other searched =
      let left = drop at text in
      let none : IsFirstByte (is_byte 10) left None = subst (λ (t : List ℕ). IsFirstByte (is_byte 10) t None) (slice_to_end text at) searched in
      let whole = found_none left none in
      passed
      ∙ ap (behind (take at text)) (line_passed number left (left_some text at within) (λ is. other (sym (left_first text at) ∙ is))
      ∙ ap (λ (t : List ℕ). behind t (parts (number + 1) (lines_of (drop_through 10 left)))) whole.through
      ∙ ap (λ (t : List ℕ). behind left (parts (number + 1) (lines_of t))) whole.rest)
      ∙ ap (before []) (ap (λ (t : List ℕ). take at text ++ t) (append-nil left) ∙ take-append-drop at text)
      ∙ cut_at_end number text

  -- the next line ends with a line feed, and is passed
  pub next_passed : (end : ℕ) → IsPassed first text at number → at < length text → slice_index text at ≢ 64
      → IsFirstByte (is_byte 10) (take (length text - at) (drop at text)) (Some end) → IsPassed first text (at + (end + 1)) (number + 1)
  next_passed end passed within other searched =
      let left = drop at text in
      let found : IsFirstByte (is_byte 10) left (Some end) = subst (λ (t : List ℕ). IsFirstByte (is_byte 10) t (Some end)) (slice_to_end text at) searched in
      let line = found_feed left end found in
      let same : suc end ≡ end + 1 = omega arith in
      let through : take_through 10 left ≡ take (end + 1) left = line.through ∙ ap (λ (k : ℕ). take k left) same in
      let rest : drop_through 10 left ≡ drop (at + (end + 1)) text = line.rest ∙ ap (λ (k : ℕ). drop k left) same ∙ drop-drop (end + 1) at text in
      passed
      ∙ ap (behind (take at text)) (line_passed number left (left_some text at within) (λ is. other (sym (left_first text at) ∙ is))
      ∙ ap (λ (t : List ℕ). behind t (parts (number + 1) (lines_of (drop_through 10 left)))) through
      ∙ ap (λ (t : List ℕ). behind (take (end + 1) left) (parts (number + 1) (lines_of t))) rest)
      ∙ behind_both (take at text) (take (end + 1) left) (parts (number + 1) (lines_of (drop (at + (end + 1)) text)))
      ∙ ap (λ (t : List ℕ). behind t (parts (number + 1) (lines_of (drop (at + (end + 1)) text)))) (sym (take-add at (end + 1) text))

-- a line feed that is found in what is left lies in the text
pub feed_within : (text : List ℕ) (at end : ℕ) → at ≤ length text → end < length (take (length text - at) (drop at text)) → at + (end + 1) ≤ length text
feed_within text at end within below = omega (arith, ap length (slice_to_end text at), length-drop at text)
