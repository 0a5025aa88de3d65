-- The line and the column of a byte.
use Rattle.std.specs.Prelude.{ℕ, zero, suc, ◌+◌, ◌==◌, Bool, not, List, [], ◌++◌, length, reverse, take, count_by, take_while}
use Rattle.std.specs.Io.BufRead.{take_through, drop_through}
use Rattle.bc_position.specs.declared.position.Position.{Position}

-- the byte is a line feed
abbrev pub is_line_feed : ℕ → Bool
is_line_feed b = b == 10

-- the byte is not a line feed
abbrev pub is_no_line_feed : ℕ → Bool
is_no_line_feed b = not (b == 10)

-- the bytes after the last line feed, last byte first, or all bytes if there is none
abbrev pub last_line : List ℕ → List ℕ
last_line bytes = take_while is_no_line_feed (reverse bytes)

-- the position after these bytes
abbrev pub position_behind : List ℕ → Position
position_behind front = record { line = 1 + count_by is_line_feed front; column = 1 + length (last_line front) }

-- the position of the byte at offset `at`, or of the end of the text
abbrev pub position_in : List ℕ → ℕ → Position
position_in text at = position_behind (take at text)

-- the first lines of a text, each with the line feed that ends it
abbrev pub first_lines : ℕ → List ℕ → List ℕ
first_lines zero text = []
first_lines (suc lines) text = take_through 10 text ++ first_lines lines (drop_through 10 text)

-- the position of the byte at offset `at` after the end of this line, or of the end of the text
abbrev pub position_below : List ℕ → ℕ → ℕ → Position
position_below text line at = position_in text (length (first_lines line text) + at)
