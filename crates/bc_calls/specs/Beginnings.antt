-- What a session begins to work on, after a history.
use Rattle.std.specs.Prelude.{◌≡◌, ◌↔◌, List, [], IsSome}
use Rattle.std.specs.List.{AllZip, Contains}
use Rattle.std.specs.List.Sorted.{IsStrictlySortedBy}
use Rattle.bc_names.specs.Names.{NameParts, name_order}
use Rattle.bc_prov.specs.State.{State}
use Rattle.bc_prov.specs.Snapshots.{SnapshotView, IsPartOf}
use Rattle.bc_calls.specs.declared.call.Entry.{Entry}
use Rattle.bc_calls.specs.Calls.{after}
use Rattle.bc_calls.specs.Answers.{IsAnswer}

-- the names ascend, and are exactly the roots that hold a body
pub record AreRoots (state : State) (names : List NameParts) : Type 0 where
  pub ascending : IsStrictlySortedBy name_order names
  pub just : (name : NameParts) → ((name.segments ≡ []) × IsSome (state.bodies name)) ↔ Contains names name

-- what is begun for a name: its part of the state after the history, with the name's answer if it has one
pub record IsBegun (h : List Entry) (name : NameParts) (begun : SnapshotView) : Type 0 where
  pub part : IsPartOf begun name (after h)
  pub answer : IsAnswer h name begun.carried

-- what is begun for all roots that hold a body after the history, in their order: for each its part, with its answer if it has one
pub record AreAllBegun (h : List Entry) (begun : List SnapshotView) : Type 0 where
  pub roots : List NameParts
  pub are_roots : AreRoots (after h) roots
  pub parts : AllZip (IsBegun h) roots begun
