-- Consequences of the definitions, on which later contracts rest.
use Rattle.std.specs.Prelude.{◌≡◌, ℕ, ◌↔◌, true, Some, reverse}
use Rattle.std.specs.List.{Contains, flat_map}
use Rattle.std.specs.Option.{option_to_list}
use Rattle.bc_syntax.specs.declared.syntax.Region.{Region}
use Rattle.bc_syntax.specs.declared.syntax.Ty.{Ty}
use Rattle.bc_syntax.specs.declared.syntax.Place.{Place}
use Rattle.bc_syntax.specs.Fits.{region_fits}
use Rattle.bc_bodies.specs.Mir.{Mir}
use Rattle.bc_bodies.specs.PlaceTypes.{type_of_place, references_of_place}
use Rattle.bc_points.specs.Prefixes.{from_last_shared, is_prefix}
use Rattle.bc_points.specs.Regions.{region_number, region_of_number}
use Rattle.bc_points.specs.Supports.{supports}
use Rattle.bc_points_laws.specs.Supporters.{last_taken, supporters}

-- a prefix of a prefix is a prefix
abbrev pub PrefixesChain : Type 0
PrefixesChain =
    (first second third : Place) → is_prefix first second ≡ true → is_prefix second third ≡ true → is_prefix first third ≡ true

-- through the fields of structs, the supporting prefixes of a place dereference the references from the last shared one on
abbrev pub TakenReferences : Type 0
TakenReferences =
    (mir : Mir) (place : Place) →
    reverse (flat_map (λ prefix. option_to_list (last_taken mir prefix)) (supporters mir place))
    ≡ from_last_shared (references_of_place mir place)

-- for a place that has a type, the test accepts exactly the prefixes that are found by taking away last projections
abbrev pub SupportersAreFound : Type 0
SupportersAreFound =
    (mir : Mir) (prefix place : Place) (ty : Ty) → type_of_place mir place ≡ Some ty →
    (supports mir prefix place ≡ true) ↔ Contains (supporters mir place) prefix

-- the region of a number has this number
abbrev pub NumbersHaveRegions : Type 0
NumbersHaveRegions = (universals number : ℕ) → region_number universals (region_of_number universals number) ≡ number

-- the number of a region of a unit has this region
abbrev pub RegionsHaveNumbers : Type 0
RegionsHaveNumbers =
    (universals : ℕ) (region : Region) → region_fits true universals region ≡ true → region_of_number universals (region_number universals region) ≡ region
