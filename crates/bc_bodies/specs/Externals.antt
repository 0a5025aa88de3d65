-- Which of the regions that a header declares are external, and which are local.
use Rattle.std.specs.Prelude.{ℕ, ◌+◌, Bool, false, not, ◌==◌, if◌then◌else◌, List, [], ◌∷◌}
use Rattle.std.specs.List.{list_any}
use Rattle.bc_syntax.specs.declared.syntax.Region.{Region}
use Rattle.bc_syntax.specs.declared.syntax.Region.TheVariants.{Universal, Variable}
use Rattle.bc_syntax.specs.declared.syntax.RegionName.{RegionName}
use Rattle.bc_syntax.specs.declared.syntax.Ty.{Ty}
use Rattle.bc_syntax.specs.declared.syntax.Header.{Header}
use Rattle.bc_types.specs.Mentions.{regions_of}

-- the region is the universal one of this number
abbrev pub is_universal : ℕ → Region → Bool
is_universal number (Universal other) = other == number
is_universal number (Variable other) = false

-- the universal region of a number occurs in a type
abbrev pub stands_in : ℕ → Ty → Bool
stands_in number ty = list_any (is_universal number) (regions_of ty)

-- a region is external if it occurs in the type of a capture
abbrev pub is_external : List Ty → ℕ → Bool
is_external captures number = list_any (stands_in number) captures

-- a region is local if it is not external
abbrev pub is_local : List Ty → ℕ → Bool
is_local captures number = not (is_external captures number)

-- the numbers that pass a test, of the regions that are declared after the first `before`
abbrev pub numbers_from : (ℕ → Bool) → ℕ → List RegionName → List ℕ
numbers_from test before [] = []
numbers_from test before (name ∷ names) =
    if test (before + 1) then (before + 1) ∷ numbers_from test (before + 1) names
    else numbers_from test (before + 1) names

-- the numbers of the declared regions that are external (rustc-dev-guide, "Propagating closure constraints")
abbrev pub external_regions : Header → List ℕ
external_regions header = numbers_from (is_external header.captures) 0 header.signature.regions

-- the numbers of the declared regions that are local
abbrev pub local_regions : Header → List ℕ
local_regions header = numbers_from (is_local header.captures) 0 header.signature.regions
