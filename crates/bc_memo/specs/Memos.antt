-- What is remembered for a name, and when it is still valid.
use Rattle.std.specs.Prelude.{◌≡◌, ℕ, Option, Some, List, map, MatchOption}
use Rattle.std.specs.List.{AllByRecursion}
use Rattle.bc_names.specs.Names.{NameParts}
use Rattle.bc_prov.specs.State.{at_name}
use Rattle.bc_prov.specs.declared.outcome.Outcome.{Outcome}
use Rattle.bc_memo.specs.declared.memo.Remembered.{Remembered}
use Rattle.bc_memo.specs.Places.{ShelfView, revision_at}

-- names with the revisions that they had; `None` for one that held no body
abbrev pub Recorded : Type 0
Recorded = List (NameParts × Option ℕ)

-- names with the revisions that they have
abbrev pub recorded : ShelfView → List NameParts → Recorded
recorded shelf names = map (λ (name : NameParts). (name, revision_at shelf name)) names

-- the row has this outcome, and the revisions of the declarations and of these names
pub record IsRowOf (shelf : ShelfView) (names : List NameParts) (found : Outcome) (row : Remembered) : Type 0 where
  pub types : row.types ≡ shelf.types_revision
  pub used : row.used.items ≡ recorded shelf names
  pub outcome : row.outcome ≡ found

-- the declarations and all recorded names still have their revisions
pub record Stands (shelf : ShelfView) (row : Remembered) : Type 0 where
  pub types : shelf.types_revision ≡ row.types
  pub names : AllByRecursion (λ (used : NameParts × Option ℕ). revision_at shelf used.0 ≡ used.1) row.used.items

-- the outcome that is remembered for a name and still valid, or none if no such row is valid
abbrev pub IsRemembered : ShelfView → List (NameParts × Remembered) → NameParts → Option Outcome → Type 0
IsRemembered shelf rows name answer =
    MatchOption answer ((row : Remembered) → at_name rows name ≡ Some row → Stands shelf row → ⊥)
    (λ outcome. (row : Remembered) × (at_name rows name ≡ Some row) × Stands shelf row × (outcome ≡ row.outcome))

-- the remembered rows, in the order of their names, and for how many more names there is room
pub record MemoView : Type 0 where
  pub rows : List (NameParts × Remembered)
  pub room : ℕ
