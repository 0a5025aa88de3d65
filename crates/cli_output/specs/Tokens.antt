-- What the tokens of an output know, and the rule that they keep.
use Rattle.std.specs.Prelude.{◌≡◌, ℕ, ◌<◌, List, [], true, false}
use mathlib.Core.Option.{some}
use lib.ListN.{get_elem?}
use Rattle.atomic_table.specs.Seated.{TableId}
use Rattle.atomic_table.specs.Table.{Me, State, Step}
use Rattle.atomic_table.specs.declared.shared.Seat.{Seat}
use Rattle.cli_output.specs.Logs.{texts_of, AreBelow}
use Rattle.cli_output.specs.declared.token.Known.{Known}

-- what a token knows
abbrev pub known : {S V : Type 0} → Seat S V → V
known seat = seat.me.0

-- the identity of no table
abbrev pub no_table : TableId
no_table = record { words = 0; slots = 0; views_name = 0; atom = 0; block = 0; offset = 0; slot_names = [] }

-- what the keeper knows: the whole log
abbrev pub keeper : List (ℕ × List ℕ) → Known
keeper log = record { keeps = true; log = log; makes = false; made = 0; writes = false; author = 0; texts = [] }

-- what the maker of authors knows: the number of those that it made
abbrev pub maker : ℕ → Known
maker made = record { keeps = false; log = []; makes = true; made = made; writes = false; author = 0; texts = [] }

-- what the token of an author knows: the texts that the author wrote
abbrev pub writer : ℕ → List (List ℕ) → Known
writer author texts = record { keeps = false; log = []; makes = false; made = 0; writes = true; author = author; texts = texts }

-- what the first token knows: it is both keeper and maker
abbrev pub first : Known
first = record { keeps = true; log = []; makes = true; made = 0; writes = false; author = 0; texts = [] }

-- what a token knows after another took it in
abbrev pub nobody : Known
nobody = record { keeps = false; log = []; makes = false; made = 0; writes = false; author = 0; texts = [] }

-- what a token knows after it took in an author's
abbrev pub with_writer : Known → Known → Known
with_writer v w = record { keeps = v.keeps; log = v.log; makes = v.makes; made = v.made; writes = w.writes; author = w.author; texts = w.texts }

-- what a token knows after it took in the maker's
abbrev pub with_maker : Known → Known → Known
with_maker v w = record { keeps = v.keeps; log = v.log; makes = w.makes; made = w.made; writes = v.writes; author = v.author; texts = v.texts }

-- the token at one place keeps the rule
pub record Fits (keeping making : ℕ) (seat : ℕ → ℕ) (log : List (ℕ × List ℕ)) (made place : ℕ) (v : Known) : Type 0 where
  pub keeps : v.keeps ≡ true → (place ≡ keeping) × (v.log ≡ log)
  pub makes : v.makes ≡ true → (place ≡ making) × (v.made ≡ made)
  pub writes : v.writes ≡ true → (place ≡ seat v.author) × (v.texts ≡ texts_of v.author log) × (v.author < made)

-- At most one token knows the log, at most one makes authors, and at most one belongs to each author and knows the texts that the log has
-- of it. The log has no authors but those that were made.
abbrev pub Kept : State ℕ Known → Type 0
Kept s =
    (keeping : ℕ) × (making : ℕ) × (seat : ℕ → ℕ) × (log : List (ℕ × List ℕ)) × (made : ℕ) × AreBelow made log
    × ((place : ℕ) (v : Known) → get_elem? s.views place ≡ some v → Fits keeping making seat log made place v)

-- what a token that knows the log learns about the author or the maker that it took in
abbrev pub Learns : Step ℕ → Me ℕ Known → ℕ → Me ℕ Known → Type 0
Learns step before found after =
    (after ≡ before)
    × (before.0.keeps ≡ true → before.0.writes ≡ true → before.0.texts ≡ texts_of before.0.author before.0.log)
    × (before.0.keeps ≡ true → before.0.makes ≡ true → AreBelow before.0.made before.0.log)
