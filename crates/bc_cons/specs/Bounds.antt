-- One more than the greatest of the numbers of regions, and at least `least`.
use Rattle.std.specs.Prelude.{ℕ, ◌+◌, max, fold, List}
use Rattle.bc_syntax.specs.declared.syntax.Ty.{Ty}
use Rattle.bc_syntax.specs.declared.syntax.Region.{Region}
use Rattle.bc_types.specs.declared.subtype.Constraint.{Constraint as RegionConstraint}
use Rattle.bc_points.specs.Regions.{region_number}
use Rattle.bc_types.specs.Mentions.{regions_of}

-- the bound of regions
abbrev pub regions_bound : ℕ → ℕ → List Region → ℕ
regions_bound universals least regions = fold (λ bound (region : Region). max bound (region_number universals region + 1)) least regions

-- the bound of the regions in types
abbrev pub types_bound : ℕ → ℕ → List Ty → ℕ
types_bound universals least tys = fold (λ bound (ty : Ty). regions_bound universals bound (regions_of ty)) least tys

-- the bound of the regions of pairs
abbrev pub pairs_bound : ℕ → ℕ → List RegionConstraint → ℕ
pairs_bound universals least pairs =
    fold (λ bound (pair : RegionConstraint). max (max bound (region_number universals pair.longer + 1)) (region_number universals pair.shorter + 1)) least pairs
