-- What the walk over a snapshot finds at a body.
use Rattle.std.specs.Prelude.{◌≡◌, ◌≤◌, ℕ, List, length, map, Some, None}
use Rattle.std.specs.List.{AllZip}
use Rattle.std.specs.Arc.{arc_value}
use Rattle.bc_syntax.specs.declared.syntax.Body.{Body}
use Rattle.bc_syntax.specs.Children.{children_of}
use Rattle.bc_names.specs.Names.{NameParts}
use Rattle.bc_bodies.specs.declared.children.Child.{Child}
use Rattle.bc_bodies.specs.Children.{IsChild}
use Rattle.bc_bodies.specs.Mir.{Mir, mir_of}
use Rattle.bc_outcomes.specs.declared.checked.CheckedSnapshot.{CheckedSnapshot}
use Rattle.bc_outcomes.specs.declared.walk.Kid.{Kid}
use Rattle.bc_outcomes.specs.declared.walk.Kids.{Kids}
use Rattle.bc_outcomes.specs.declared.walk.Kids.TheVariants as kids_found
use Rattle.bc_outcomes.specs.declared.walk.BodyVisit.{BodyVisit}
use Rattle.bc_outcomes.specs.declared.walk.BodyVisit.TheVariants.{Fitting, Faulty}
use Rattle.bc_prov.specs.State.{State, AreSuited, child, mir_at, state_of}
use Rattle.bc_prov.specs.Outcome.{absent_among, own_fault, fault_at}
use Rattle.bc_outcomes.specs.Visited.{VisitView}

-- what is stored in the snapshot, as a state
abbrev pub state_in : CheckedSnapshot → State
state_in checked = state_of (arc_value checked.types.now) checked.snapshot.now.units

-- the number and header of a closure
abbrev pub child_of_kid : Kid → Child
child_of_kid kid = record { number = kid.number; header = kid.unit.now.header }

-- a unit over the snapshot's declarations and the headers of these closures
abbrev pub mir_in : CheckedSnapshot → List Kid → Body → Mir
mir_in checked kids unit = mir_of (arc_value checked.types.now) (map child_of_kid kids) unit

-- the unit is a closure, and its number is at most 63
abbrev pub ChildKid : Kid → Type 0
ChildKid kid = IsChild (child_of_kid kid)

-- the closure of this number is stored, and this is it
pub record IsKid (state : State) (name : NameParts) (number : ℕ) (kid : Kid) : Type 0 where
  pub numbered : kid.number ≡ number
  pub is_child : ChildKid kid
  pub short : length (child name number).segments ≤ 7
  pub held : state.bodies (child name number) ≡ Some kid.unit.now

-- the closures of these numbers are stored, and these are they; or this is the first one that is absent
abbrev pub AreKids : State → NameParts → List ℕ → Kids → Type 0
AreKids state name numbers (kids_found.Stored kids) = AllZip (IsKid state name) numbers kids.items
AreKids state name numbers (kids_found.Absent absent) = absent_among state name numbers ≡ Some absent

-- the visit of a body at a name
abbrev pub visit_of : State → NameParts × Body → VisitView
visit_of state unit = record { name = unit.0; unit = unit.1; typed = mir_at state unit.0 unit.1 }

-- the body alone has no fault, and these are its visit and its closures; or this is its fault
abbrev pub IsLooked : State → NameParts → Body → BodyVisit → Type 0
IsLooked state name body (Fitting visit kids) = (own_fault state name body ≡ None) × (visit ≡ visit_of state (name, body)) × AllZip (IsKid state name) (children_of body) kids.items
IsLooked state name body (Faulty fault) = own_fault state name body ≡ Some fault

-- the name holds a body, there is no fault from the name on, and each body is stored at a name that suits it
pub record IsSound (state : State) (name : NameParts) : Type 0 where
  pub body : Body
  pub held : state.bodies name ≡ Some body
  pub short : length name.segments ≤ 7
  pub faultless : fault_at state name ≡ None
  pub suited : AreSuited state.bodies
