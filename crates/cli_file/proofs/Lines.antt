-- The first line of a text.
use Rattle.std.proofs.Common.{◌≡◌, ℕ, ◌<◌, true, false, cond, List, [], ◌∷◌, length, take, drop, ◌+◌, refl, ap, sym, ◌∙◌, arith}
use Rattle.std.specs.Prelude.{◌==◌}
use Rattle.std.specs.List.{onto_first}
use Rattle.std.specs.Io.BufRead.{take_through, drop_through}
use Rattle.cli_file.specs.Parts.{Part, Parts, lines_of, without_end, parts, opened, sections_from}

abbrev header_with : ℕ → List ℕ → Parts → List Part
header_with line header rest = record { line = line; header = header; text = rest.text } ∷ rest.sections

-- a text that is not empty is its first line and the others
pub lines_of_first : (b : ℕ) (bytes : List ℕ) → lines_of (b ∷ bytes) ≡ take_through 10 (b ∷ bytes) ∷ lines_of (drop_through 10 (b ∷ bytes))
lines_of_first b [] = elim (b == 10) as (λ t. cond t ((b ∷ []) ∷ []) ((b ∷ []) ∷ []) ≡ cond t (b ∷ []) (b ∷ []) ∷ lines_of (cond t [] [])) [ true ↦ refl | false ↦ refl ]
lines_of_first b (c ∷ bytes) =
    let again = lines_of_first c bytes in
    elim (b == 10) as (λ t. cond t ((b ∷ []) ∷ lines_of (c ∷ bytes)) (onto_first b (lines_of (c ∷ bytes))) ≡ cond t (b ∷ []) (b ∷ take_through 10 (c ∷ bytes)) ∷ lines_of (cond t (c ∷ bytes) (drop_through 10 (c ∷ bytes)))) [ true ↦ refl | false ↦ ap (onto_first b) again ]

pub without_end_first : (bytes : List ℕ) → without_end (take_through 10 bytes) ≡ without_end bytes
without_end_first [] = refl
without_end_first (b ∷ bytes) =
    elim (b == 10) as (λ t. (b == 10) ≡ t → without_end (cond t (b ∷ []) (b ∷ take_through 10 bytes)) ≡ cond t [] (b ∷ without_end bytes)) [
      | true ↦ λ e. rw e refl
      | false ↦ λ e. rw e (ap (λ (t : List ℕ). b ∷ t) (without_end_first bytes))
    ] refl

-- a file is its first section and the others, if its first line is cut off and the next header line is found
pub first_section : (file behind : List ℕ) (line next len : ℕ) → 0 < length file → behind ≡ drop_through 10 file → parts (line + 1) (lines_of behind) ≡ record { text = take len behind; sections = sections_from next (lines_of (drop len behind)) } → sections_from line (lines_of file) ≡ record { line = line; header = without_end file; text = take len behind } ∷ sections_from next (lines_of (drop len behind))
first_section [] behind line next len some cut found = absurd (omega arith)
first_section (b ∷ bytes) behind line next len some cut found =
    let rest : Parts = record { text = take len behind; sections = sections_from next (lines_of (drop len behind)) } in
    let found_here : parts (line + 1) (lines_of (drop_through 10 (b ∷ bytes))) ≡ rest = ap (λ (t : List ℕ). parts (line + 1) (lines_of t)) (sym cut) ∙ found in
    ap (sections_from line) (lines_of_first b bytes)
    ∙ ap (opened line (take_through 10 (b ∷ bytes))) found_here
    ∙ ap (λ (h : List ℕ). header_with line h rest) (without_end_first (b ∷ bytes))
