-- Pairs of regions as a table of bits: a row for each longer region, and in it a bit for each shorter one.
use Rattle.std.specs.Prelude.{◌≡◌, ℕ, ◌<◌, ◌||◌, Bool, List, length}
use Rattle.bc_flow.specs.Flow.{holds, HaveSize}
use Rattle.bc_types.specs.declared.subtype.Constraint.{Constraint}
use Rattle.bc_types.specs.WellFormed.{is_demanded, is_pair}

-- the bit of one more pair is set, if it has one
pub record IsMarked (old new : List (List Bool)) (pair : Constraint) : Type 0 where
  pub count : length new ≡ length old
  pub size : HaveSize (length old) new
  pub bits : (longer shorter : ℕ) → longer < length old → shorter < length old → holds new longer shorter ≡ (holds old longer shorter || is_pair longer shorter pair)

-- the bits of pairs are set, and no others
pub record AreMarked (regions : ℕ) (pairs : List Constraint) (table : List (List Bool)) : Type 0 where
  pub count : length table ≡ regions
  pub size : HaveSize regions table
  pub bits : (longer shorter : ℕ) → longer < regions → shorter < regions → holds table longer shorter ≡ is_demanded pairs longer shorter
