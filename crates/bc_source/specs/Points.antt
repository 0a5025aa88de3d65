-- The places of points in a file, and the texts there.
use Rattle.std.specs.Prelude.{ℕ, ◌+◌, ◌-◌, ◌==◌, ◌||◌, Bool, not, List, [], ◌++◌, length, reverse, map, take, drop, take_while, slice_get, decimal, codes, Option, if◌then◌else◌}
use Rattle.std.specs.Option.{option_map_or}
use Rattle.bc_syntax.specs.Fits.{point_count}
use Rattle.bc_bodies.specs.declared.mir.Point.{Point}
use Rattle.bc_places.specs.Places.{places_of}
use Rattle.bc_position.specs.Positions.{position_in}
use Rattle.bc_position.specs.declared.position.Position.{Position}
use Rattle.bc_report.specs.Text.{line as ended}
use Rattle.bc_source.specs.declared.starts.Start.{Start}
use Rattle.bc_source.specs.Sources.{UnitParts}

-- a byte is a space or a line feed
abbrev pub is_blank : ℕ → Bool
is_blank b = b == 32 || b == 10

-- a byte is no `;`
abbrev pub is_no_semicolon : ℕ → Bool
is_no_semicolon b = not (b == 59)

-- bytes without the blanks at their end
abbrev pub without_last_blanks : List ℕ → List ℕ
without_last_blanks bytes = take (length bytes - length (take_while is_blank (reverse bytes))) bytes

-- the statement or terminator that begins at this byte: the bytes up to its `;`, without the blanks before that
abbrev pub statement_at : List ℕ → ℕ → List ℕ
statement_at text at = without_last_blanks (take_while is_no_semicolon (drop at text))

-- a line feed as a space, each other byte as it is
abbrev pub in_one_line : ℕ → ℕ
in_one_line b = if b == 10 then 32 else b

-- where a point begins, if the unit has it: by its index, after the points of the earlier blocks
abbrev pub place_of : UnitParts → Point → Option ℕ
place_of source point = slice_get (drop (point_count (take point.block source.unit.blocks)) (places_of source.text source.unit)) point.index

-- a byte of a text, with its line and column there
abbrev pub start_in : List ℕ → ℕ → Start
start_in text at = record { at = at; position = position_in text at }

-- the line and column right after a byte, from those of the byte
abbrev pub behind_byte : Position → ℕ → Position
behind_byte position b = if b == 10 then record { line = position.line + 1; column = 1 } else record { line = position.line; column = position.column + 1 }

-- a word, and a line and a column of the file
unfoldable pub position_text : List ℕ → ℕ → ℕ → List ℕ
position_text word number column = codes "    " ++ word ++ codes " " ++ decimal number ++ codes ":" ++ decimal column ++ codes " "

-- the line with a word, a line and a column, and the text there in one line
abbrev pub place_text : List ℕ → ℕ → ℕ → List ℕ → List ℕ
place_text word number column text = ended (position_text word number column ++ map in_one_line text)

-- the line of what begins at this byte
abbrev pub place_line : List ℕ → UnitParts → ℕ → List ℕ
place_line word source at =
    let position = position_in source.text at in
    place_text word (source.line + position.line) position.column (statement_at source.text at)

-- the line of a point, or nothing if the unit has no such point
abbrev pub point_line : List ℕ → UnitParts → Point → List ℕ
point_line word source point = option_map_or (place_line word source) (place_of source point) []
