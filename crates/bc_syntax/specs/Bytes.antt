-- Bytes of names and of runs in texts.
use Rattle.std.specs.Prelude.{ℕ, Bool, ◌||◌, ◌==◌, List, take_while}
use Rattle.std.specs.Char.{is_ascii_alphanumeric}

-- the byte is a letter, a digit or `_`
abbrev pub is_run_byte : ℕ → Bool
is_run_byte b = is_ascii_alphanumeric b || b == 95

-- the run at the front: all letters, digits and `_` up to another byte
abbrev pub run : List ℕ → List ℕ
run bytes = take_while is_run_byte bytes
