-- Lines of text.
use Rattle.std.specs.Prelude.{ℕ, List, [], ◌∷◌, ◌++◌}

-- a line: a text, and one line feed at its end
abbrev pub line : List ℕ → List ℕ
line text = text ++ 10 ∷ []
