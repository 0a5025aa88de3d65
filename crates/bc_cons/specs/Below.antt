-- How many regions a body has.
use Rattle.std.specs.Prelude.{ℕ, ◌<◌, ◌≤◌, List}
use Rattle.std.specs.List.{All}
use Rattle.bc_syntax.specs.declared.syntax.Ty.{Ty}
use Rattle.bc_syntax.specs.declared.syntax.Region.{Region}
use Rattle.bc_types.specs.declared.subtype.Constraint.{Constraint as RegionConstraint}
use Rattle.bc_bodies.specs.Mir.{Mir}
use Rattle.bc_points.specs.Regions.{region_number}
use Rattle.bc_cons.specs.declared.requirements.Requirements.{Requirements}
use Rattle.bc_cons.specs.Constraints.{constraints_of}
use Rattle.bc_cons.specs.Facts.{ArePairsWithin}
use Rattle.bc_types.specs.Mentions.{regions_of}

-- each region in the type has a number below the bound
abbrev pub TyIsBelow : ℕ → ℕ → Ty → Type 0
TyIsBelow universals bound ty = All (λ (region : Region). region_number universals region < bound) (regions_of ty)

-- each region in the types has a number below the bound
abbrev pub TysAreBelow : ℕ → ℕ → List Ty → Type 0
TysAreBelow universals bound tys = All (λ (ty : Ty). TyIsBelow universals bound ty) tys

-- each region of the pairs has a number below the bound
abbrev pub PairsAreBelow : ℕ → ℕ → List RegionConstraint → Type 0
PairsAreBelow universals bound pairs =
    All (λ (pair : RegionConstraint). (region_number universals pair.longer < bound) × (region_number universals pair.shorter < bound)) pairs

-- the least number that is above the numbers of the universal regions, of the regions in the types of locals and of those in constraints
pub record IsRegionCount (mir : Mir) (kids : List (ℕ × Requirements)) (count : ℕ) : Type 0 where
  pub universals : mir.universals ≤ count
  pub types : TysAreBelow mir.universals count mir.locals
  pub constraints : ArePairsWithin count (constraints_of mir kids)
  pub least : (n : ℕ) → mir.universals ≤ n → TysAreBelow mir.universals n mir.locals → ArePairsWithin n (constraints_of mir kids) → count ≤ n
