-- The state: declarations, and a map from names to bodies.
use Rattle.std.specs.Prelude.{◌≡◌, ◌≢◌, ◌==◌, ◌⊎◌, ◌<◌, ℕ, ◌-◌, Bool, List, [], ◌∷◌, ◌++◌, length, Option, Some}
use Rattle.std.specs.Option.{option_map}
use Rattle.std.specs.List.{filter_map}
use Rattle.std.specs.Map.{lookup}
use Rattle.std.specs.BTreeMap.{is_at}
use Rattle.bc_syntax.specs.declared.syntax.Declaration.{Declaration}
use Rattle.bc_syntax.specs.declared.syntax.Body.{Body}
use Rattle.bc_syntax.specs.declared.syntax.UnitKind.{UnitKind}
use Rattle.bc_syntax.specs.declared.syntax.UnitKind.TheVariants.{Function, Closure}
use Rattle.bc_syntax.specs.Children.{children_of}
use Rattle.bc_names.specs.Names.{NameParts, name_order}
use Rattle.bc_bodies.specs.declared.children.Child.{Child}
use Rattle.bc_bodies.specs.Mir.{Mir, mir_of}

-- the body at each name, if there is one
abbrev pub Bodies : Type 0
Bodies = NameParts → Option Body

-- what is stored: declarations, and bodies under their names
pub record State : Type 0 where
  pub types : List Declaration
  pub bodies : Bodies

-- what a list has under a name, if the name is in it
abbrev pub at_name : {V : Type 0} → List (NameParts × V) → NameParts → Option V
at_name entries name = lookup (is_at (name_order name)) entries

-- the state that has these declarations, and the bodies that a list has under their names; any other name holds none
abbrev pub state_of : List Declaration → List (NameParts × Body) → State
state_of types units = record { types = types; bodies = at_name units }

-- the name has no segments, so it is a root
abbrev pub is_root : NameParts → Bool
is_root name = length name.segments == 0

-- the name of the closure of this number
abbrev pub child : NameParts → ℕ → NameParts
child name number = record { root = name.root; segments = name.segments ++ number ∷ [] }

-- the body has no children, or the name has fewer than seven segments, so that its children have names
abbrev pub HasRoom : NameParts → Body → Type 0
HasRoom name body = (children_of body ≡ []) ⊎ (length name.segments < 7)

-- a function is stored under a root, and a closure under any other name
abbrev pub SuitsKind : UnitKind → NameParts → Type 0
SuitsKind Function name = name.segments ≡ []
SuitsKind Closure name = name.segments ≢ []

-- the body may be stored under this name
pub record Suits (body : Body) (name : NameParts) : Type 0 where
  pub kind : SuitsKind body.header.kind name
  pub room : HasRoom name body

-- each body is stored at a name that suits it
abbrev pub AreSuited : Bodies → Type 0
AreSuited bodies = (name : NameParts) (body : Body) → bodies name ≡ Some body → Suits body name

-- how many levels of closures there are from a name on, its own included: a name has at most seven segments
abbrev pub levels_from : NameParts → ℕ
levels_from name = 8 - length name.segments

-- the number of a child
abbrev pub number_of_child : Child → ℕ
number_of_child child = child.number

-- the number and the header of each of the name's closures with these numbers that is stored
abbrev pub children_at : State → NameParts → List ℕ → List Child
children_at state name numbers =
    filter_map (λ number. option_map (λ (body : Body). record { number = number; header = body.header }) (state.bodies (child name number))) numbers

-- the body at a name as the analysis sees it, over the declarations and the headers of its children
abbrev pub mir_at : State → NameParts → Body → Mir
mir_at state name body = mir_of state.types (children_at state name (children_of body)) body
