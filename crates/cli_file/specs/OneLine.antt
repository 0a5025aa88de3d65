-- Names in one line.
use Rattle.std.specs.Prelude.{ℕ, if◌then◌else◌}
use Rattle.std.specs.Char.{is_ascii_control}

-- what is printed for a byte in a line: a question mark for a control character
abbrev pub in_one_line : ℕ → ℕ
in_one_line b = if is_ascii_control b then 63 else b
