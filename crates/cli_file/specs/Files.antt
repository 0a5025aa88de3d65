-- The size of a file.
use Rattle.std.specs.Prelude.{ℕ}

-- the most bytes of a file: 16 MiB
abbrev pub most_bytes : ℕ
most_bytes = 16777216
