-- The rule of the published table, and what its two kinds of step guarantee. A view is the list that a thread has seen.
use Rattle.std.specs.Prelude.{◌≡◌, ℕ, Some, List, [], ◌∷◌, ◌++◌, map}
use mathlib.Core.Option.{some}
use lib.ListN.{get_elem?}
use Rattle.bc_memo.specs.Places.{AreFitting, changed}
use Rattle.bc_calls.specs.declared.call.Entry.{Entry}
use Rattle.bc_calls.specs.Calls.{IsLegal, MayComeNext, StartsWith}
use Rattle.bc_calls.specs.Changes.{change_of}
use Rattle.bc_versions.specs.Tables.{TableView, UpdateView, IsTableOf}

-- there is one legal list of what was published; the table is the table of that list, and what each thread has seen is a beginning of it
abbrev pub IsPublished : TableView → List (List Entry) → Type 0
IsPublished table views =
    (published : List Entry) × IsLegal published × IsTableOf table published
    × ((seat : ℕ) (seen : List Entry) → get_elem? views seat ≡ some seen → StartsWith published seen)

-- a reading: all that had been seen, and maybe more, is seen; it is legal, and the table is the table of that list
abbrev pub Looks : List Entry → TableView → TableView → List Entry → Type 0
Looks seen table same now = StartsWith now seen × IsLegal now × IsTableOf table now

-- a publication: one entry is added to what the writer had seen, and the table shows it as its last
abbrev pub Adds : List Entry → TableView → TableView → List Entry → Type 0
Adds seen before table now = (e : Entry) × (table.last ≡ Some e) × (now ≡ seen ++ e ∷ [])

-- one update waits to be published: its entry may come next, and its pieces are of what the table then holds
abbrev pub IsDue : List Entry → TableView → List UpdateView → Type 0
IsDue seen table [] = ⊥
IsDue seen table (u ∷ []) = MayComeNext seen u.entry × AreFitting (changed table.shelf (change_of u.entry.event) u.revision) u.pieces
IsDue seen table (u ∷ v ∷ more) = ⊥

-- the entries of updates
abbrev pub entries_of : List UpdateView → List Entry
entries_of us = map (λ (u : UpdateView). u.entry) us
