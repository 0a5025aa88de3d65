-- The lines of an input, and the next of them.
use Rattle.std.specs.Prelude.{◌≡◌, ℕ, ◌<◌, ◌≤◌, ◌==◌, List, [], ◌∷◌, length, if◌then◌else◌, Option, Some, None, ⊤}
use Rattle.std.specs.List.{onto_first}
use Rattle.cli_input.specs.declared.line.InputLine.{InputLine}
use Rattle.cli_input.specs.declared.line.InputLine.TheVariants.{Text, TooLong}

-- the lines of some bytes, each without its line feed; the last may have none
abbrev pub lines_of : List ℕ → List (List ℕ)
lines_of [] = []
lines_of (b ∷ bytes) = if b == 10 then [] ∷ lines_of bytes else onto_first b (lines_of bytes)

-- these bytes are the line, or too long for the limit
abbrev pub IsLine : ℕ → List ℕ → InputLine → Type 0
IsLine limit bytes (Text text) = (text.items ≡ bytes) × (length bytes ≤ limit)
IsLine limit bytes TooLong = limit < length bytes

-- the first of some lines was read, and these are left; or there was no line
abbrev pub ReadsFirst : ℕ → List (List ℕ) → List (List ℕ) → Option InputLine → Type 0
ReadsFirst limit lines left None = (lines ≡ []) × (left ≡ [])
ReadsFirst limit lines left (Some line) = (bytes : List ℕ) × (lines ≡ bytes ∷ left) × IsLine limit bytes line

-- the next line of an input was read: if the bytes are known, it is the first of their lines, and the others are left
abbrev pub ReadsNext : ℕ → Option (List ℕ) → Option (List ℕ) → Option InputLine → Type 0
ReadsNext limit None new line = ⊤
ReadsNext limit (Some bytes) None line = ⊥
ReadsNext limit (Some bytes) (Some left) line = ReadsFirst limit (lines_of bytes) (lines_of left) line
