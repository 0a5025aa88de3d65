-- Work on a snapshot, and when its inputs are still stored.
use Rattle.std.specs.Prelude.{◌≡◌, ℕ, List}
use Rattle.bc_prov.specs.declared.outcome.Outcome.{Outcome}
use Rattle.bc_prov.specs.Outcome.{IsOutcomeIn}
use Rattle.bc_prov.specs.Snapshots.{SnapshotView}
use Rattle.bc_prov.specs.State.{state_of}
use Rattle.bc_memo.specs.Places.{ShelfView, IsHeld, units_in}

-- a snapshot, the revisions of its declarations and of its units, and the outcome that was found
pub record WorkView : Type 0 where
  pub snapshot : SnapshotView
  pub types_at : ℕ
  pub units_at : List ℕ
  pub outcome : Outcome

-- the outcome is right for the snapshot's name in the snapshot
abbrev pub IsDone : SnapshotView → Outcome → Type 0
IsDone snapshot outcome = IsOutcomeIn (state_of snapshot.types snapshot.units) snapshot.root outcome

-- the shelf still holds what the work was done on, with all its revisions
abbrev pub StandsIn : ShelfView → WorkView → Type 0
StandsIn shelf work = IsHeld shelf work.snapshot work.types_at work.units_at

-- the outcome is the work's own, and was found from what the shelf holds at its name and at names that begin with it and `/`
pub record Stood (shelf : ShelfView) (work : WorkView) (found : Outcome) : Type 0 where
  pub own : found ≡ work.outcome
  pub right : IsDone work.snapshot found
  pub types : work.snapshot.types ≡ shelf.types
  pub units : work.snapshot.units ≡ units_in work.snapshot.root shelf.places
