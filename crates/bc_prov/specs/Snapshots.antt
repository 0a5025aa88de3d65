-- Snapshots: the part of a state on which the outcome of one name depends.
use Rattle.std.specs.Prelude.{◌≡◌, ◌<◌, ℕ, true, List, ◌∷◌, length, map, slice_index_or, Option, Some, None, Vec, IfSome}
use Rattle.std.specs.List.{AllByRecursion, flat_map}
use Rattle.std.specs.List.Sorted.{IsStrictlySortedBy}
use Rattle.std.specs.Map.{keys_of}
use Rattle.bc_syntax.specs.declared.syntax.Declaration.{Declaration}
use Rattle.bc_syntax.specs.declared.syntax.Body.{Body}
use Rattle.bc_syntax.specs.Children.{children_of}
use Rattle.bc_names.specs.Names.{NameParts, is_within, name_order}
use Rattle.bc_prov.specs.declared.outcome.Outcome.{Outcome}
use Rattle.bc_prov.specs.State.{State, Suits, at_name, child, state_of}
use Rattle.bc_prov.specs.Outcome.{IsOutcomeIn}
use Rattle.bc_prov.specs.Pieces.{PieceView, AreAscending, ArePieces}
use Rattle.std.specs.declared.alloc.Global.{Global}

-- declarations, a name, bodies under their names, and the outcome that is carried, if any
pub record SnapshotView : Type 0 where
  pub types : List Declaration
  pub root : NameParts
  pub units : List (NameParts × Body)
  pub carried : Option Outcome

-- The names ascend strictly, each is the root or begins with it and `/`, and each body suits its name: a function has a root,
-- a closure any other, and at a name of seven segments it has no child.
pub record IsSnapshot (root : NameParts) (units : List (NameParts × Body)) : Type 0 where
  pub ascending : IsStrictlySortedBy name_order (keys_of units)
  pub within : AllByRecursion (λ name. is_within root name ≡ true) (keys_of units)
  pub suited : AllByRecursion (λ (unit : NameParts × Body). Suits unit.1 unit.0) units

-- pieces, each under its name, if there are any
abbrev pub PieceList : Type 0
PieceList = Option (Vec (NameParts × PieceView) Global)

-- the piece is among these, under its name
abbrev pub IsAmongPieces : PieceList → NameParts → PieceView → Type 0
IsAmongPieces None name piece = ⊥
IsAmongPieces (Some pieces) name piece = (place : ℕ) × (place < length pieces.items) × (slice_index_or pieces.items place (name, piece) ≡ (name, piece))

-- The names and bodies make a snapshot. A carried outcome is the outcome of the name. Each piece that is kept or carried is of the body at
-- its name, and the carried ones are sorted by name.
pub record IsKept (types : List Declaration) (root : NameParts) (units : List (NameParts × Body)) (carried : Option Outcome) (kept offered : PieceList) : Type 0 where
  pub snapshot : IsSnapshot root units
  pub outcome : IfSome carried (IsOutcomeIn (state_of types units) root)
  pub kept_pieces : IfSome kept (λ (pieces : Vec (NameParts × PieceView) Global). ArePieces types units pieces.items)
  pub offered_pieces : IfSome offered (λ (pieces : Vec (NameParts × PieceView) Global). ArePieces types units pieces.items)
  pub offered_ascend : IfSome offered (λ (pieces : Vec (NameParts × PieceView) Global). AreAscending pieces.items)

-- the names of the closures that a body at a name has
abbrev pub children_named : NameParts × Body → List NameParts
children_named unit = map (child unit.0) (children_of unit.1)

-- the names that the outcome of a name depends on: its own, and that of each closure that one of its bodies names, stored or not
abbrev pub names_used : NameParts → List (NameParts × Body) → List NameParts
names_used root units = root ∷ flat_map children_named units

-- the snapshot is a name's part of a state: its declarations, and its bodies at the name and at all names that begin with it
-- and `/`
pub record IsPartOf (snapshot : SnapshotView) (name : NameParts) (state : State) : Type 0 where
  pub root : snapshot.root ≡ name
  pub types : snapshot.types ≡ state.types
  pub bodies : (other : NameParts) → is_within name other ≡ true → at_name snapshot.units other ≡ state.bodies other
