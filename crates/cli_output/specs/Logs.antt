-- What several authors wrote, in one order: texts, each with the number of its author.
use Rattle.std.specs.Prelude.{ℕ, ◌==◌, ◌<◌, List, map, All}
use Rattle.std.specs.List.{filter, flat_map}

-- the texts of one author, in order
abbrev pub texts_of : ℕ → List (ℕ × List ℕ) → List (List ℕ)
texts_of author log = map (λ e. e.1) (filter (λ e. e.0 == author) log)

-- all texts, one after another
abbrev pub bytes_of : List (ℕ × List ℕ) → List ℕ
bytes_of log = flat_map (λ e. e.1) log

-- the number of each author is below this one
abbrev pub AreBelow : ℕ → List (ℕ × List ℕ) → Type 0
AreBelow count log = All (λ e. e.0 < count) log
