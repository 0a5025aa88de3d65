-- What the values of regions are solved from. Regions and elements are numbers.
use Rattle.std.specs.Prelude.{ℕ, ◌+◌, ◌<◌, ◌≤◌, Bool, List, length}
use Rattle.std.specs.List.{All, Contains}
use Rattle.bc_flow.specs.Flow.{HaveSize}
use Rattle.bc_cons.specs.declared.facts.NumberedConstraint.{NumberedConstraint}

-- the number of universal regions, which have the first numbers; the number of elements; for each region the set of elements that it starts
-- with; and the constraints between regions
pub record RegionFacts : Type 0 where
  pub universals : ℕ
  pub elements : ℕ
  pub starts : List (List Bool)
  pub pairs : List NumberedConstraint

-- a constraint says that the longer region has all that the shorter one has
abbrev pub MustOutlive : List NumberedConstraint → ℕ → ℕ → Type 0
MustOutlive pairs longer shorter = Contains pairs (record { longer = longer; shorter = shorter })

-- each constraint is between two regions below this number
abbrev pub ArePairsWithin : ℕ → List NumberedConstraint → Type 0
ArePairsWithin regions pairs = All (λ (c : NumberedConstraint). (c.longer < regions) × (c.shorter < regions)) pairs

-- there are no more regions than numbers for them, each start row has this number of elements, and each constraint is between regions that
-- have a row
pub record IsRegionFacts (universals elements : ℕ) (starts : List (List Bool)) (pairs : List NumberedConstraint) : Type 0 where
  pub regions : length starts ≤ universals + 65536
  pub sizes : HaveSize elements starts
  pub within : ArePairsWithin (length starts) pairs
