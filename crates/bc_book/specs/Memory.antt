-- When what is remembered is right.
use Rattle.std.specs.Prelude.{◌≡◌, ℕ, ◌≤◌, Option, Some, None, IsSome, List}
use Rattle.bc_names.specs.Names.{NameParts}
use Rattle.bc_prov.specs.State.{State, at_name}
use Rattle.bc_prov.specs.Outcome.{IsOutcomeIn}
use Rattle.bc_outcomes.specs.Laws.{IsUsed}
use Rattle.bc_memo.specs.declared.memo.Remembered.{Remembered}
use Rattle.bc_memo.specs.Places.{ShelfView, revision_at}
use Rattle.bc_calls.specs.declared.call.Entry.{Entry}
use Rattle.bc_calls.specs.Calls.{after}
use Rattle.bc_calls.specs.Changes.{writes_of}

-- The outcome was found in a state. All that it depends on there is recorded with its revision, and whatever still has that revision is as
-- it was there. No recorded revision is above the count of accepted writes.
pub record IsRight (shelf : ShelfView) (h : List Entry) (name : NameParts) (row : Remembered) : Type 0 where
  pub state : State
  pub outcome : IsOutcomeIn state name row.outcome
  pub covers : (used : NameParts) → IsUsed name state used → IsSome (at_name row.used.items used)
  pub types : shelf.types_revision ≡ row.types → (after h).types ≡ state.types
  pub bodies : (used : NameParts) (revision : Option ℕ) → at_name row.used.items used ≡ Some revision → revision_at shelf used ≡ revision → (after h).bodies used ≡ state.bodies used
  pub types_past : row.types ≤ writes_of h
  pub past : (used : NameParts) (revision : ℕ) → at_name row.used.items used ≡ Some (Some revision) → revision ≤ writes_of h
  pub absent : (used : NameParts) → at_name row.used.items used ≡ Some None → state.bodies used ≡ None

-- no revision is above the count of accepted writes
pub record ArePast (shelf : ShelfView) (h : List Entry) : Type 0 where
  pub types : shelf.types_revision ≤ writes_of h
  pub bodies : (name : NameParts) (revision : ℕ) → revision_at shelf name ≡ Some revision → revision ≤ writes_of h
