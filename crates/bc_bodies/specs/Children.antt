-- The children of a unit.
use Rattle.std.specs.Prelude.{◌≡◌, ◌≤◌, ℕ, ◌+◌, Bool, true, false, ◌||◌, ◌&&◌, ◌==◌, if◌then◌else◌, Option, Some, None, List, [], ◌∷◌, length}
use Rattle.std.specs.Option.{option_map_or}
use Rattle.bc_syntax.specs.declared.syntax.Region.{Region}
use Rattle.bc_syntax.specs.declared.syntax.Region.TheVariants.{Universal}
use Rattle.bc_syntax.specs.declared.syntax.RegionName.{RegionName}
use Rattle.bc_syntax.specs.declared.syntax.Base.{Base}
use Rattle.bc_syntax.specs.declared.syntax.Base.TheVariants.{Int, Struct, Closure}
use Rattle.bc_syntax.specs.declared.syntax.ClosureInstance.{ClosureInstance}
use Rattle.bc_syntax.specs.declared.syntax.Ty.{Ty}
use Rattle.bc_syntax.specs.declared.syntax.UnitKind.TheVariants as kinds
use Rattle.bc_syntax.specs.declared.syntax.Header.{Header}
use Rattle.bc_syntax.specs.declared.syntax.Outlives.{Outlives}
use Rattle.bc_bodies.specs.declared.children.Child.{Child}
use Rattle.bc_bodies.specs.Externals.{is_external, external_regions, local_regions}

-- a child is a closure, and its number is at most 63
pub record IsChild (child : Child) : Type 0 where
  pub number : child.number ≤ 63
  pub kind : child.header.kind ≡ kinds.Closure

-- the header of the child of a number
abbrev pub child_of : List Child → ℕ → Option Header
child_of [] number = None
child_of (child ∷ children) number = if child.number == number then Some child.header else child_of children number

-- a closure has as many regions as its child has external ones
abbrev pub takes_externals : ClosureInstance → Header → Bool
takes_externals closure header = length (external_regions header) == length closure.regions

-- a call gives as many regions as the child has local ones
abbrev pub takes_locals : List Region → Header → Bool
takes_locals regions header = length (local_regions header) == length regions

-- the base is no closure, or a child with as many regions as the child has external ones
abbrev pub is_known_base : List Child → Base → Bool
is_known_base children Int = true
is_known_base children (Struct instance) = true
is_known_base children (Closure closure) = option_map_or (takes_externals closure) (child_of children closure.number) false

-- a closure that the type mentions is a child, and has as many regions as the child has external ones
abbrev pub is_known : List Child → Ty → Bool
is_known children ty = is_known_base children ty.base

-- ---- regions that are given

-- the first region, or `'static` if there is none
abbrev pub first_of : List Region → Region
first_of [] = Universal 0
first_of (region ∷ regions) = region

-- the regions after the first
abbrev pub behind_first : List Region → List Region
behind_first [] = []
behind_first (region ∷ regions) = regions

-- a region for each that is declared after the first `before`: for an external one the next that the closure has, for a local one the next
-- that its call gives
abbrev pub arguments_from : List Ty → ℕ → List RegionName → (given local : List Region) → List Region
arguments_from captures before [] given local = []
arguments_from captures before (name ∷ names) given local =
    if is_external captures (before + 1)
    then first_of given ∷ arguments_from captures (before + 1) names (behind_first given) local
    else first_of local ∷ arguments_from captures (before + 1) names given (behind_first local)

-- a region for each that a header declares, in the order of the header: for an external one the next of `given`, for a local one the next
-- of `local`
abbrev pub arguments_of : Header → (given local : List Region) → List Region
arguments_of header given local = arguments_from header.captures 0 header.signature.regions given local

-- the region is `'static` or external
abbrev pub is_outer : List Ty → ℕ → Bool
is_outer captures number = number == 0 || is_external captures number

-- the creation of a closure demands the clause: it is between external regions and `'static` alone (rustc-dev-guide, "Propagating closure
-- constraints")
abbrev pub is_outer_clause : List Ty → Outlives → Bool
is_outer_clause captures clause = is_outer captures clause.longer && is_outer captures clause.shorter
