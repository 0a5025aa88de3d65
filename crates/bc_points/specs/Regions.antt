-- Regions as numbers: the universal ones first, then the variables.
use Rattle.std.specs.Prelude.{ℕ, ◌+◌, ◌-◌, nat_lt, if◌then◌else◌}
use Rattle.bc_syntax.specs.declared.syntax.Region.{Region}
use Rattle.bc_syntax.specs.declared.syntax.Region.TheVariants.{Universal, Variable}

-- the number of a region, if the first `universals` numbers are those of the universal regions
abbrev pub region_number : ℕ → Region → ℕ
region_number universals (Universal u) = u
region_number universals (Variable v) = universals + v

-- the region of a number, if the first `universals` numbers are those of the universal regions
abbrev pub region_of_number : ℕ → ℕ → Region
region_of_number universals number = if nat_lt number universals then Universal number else Variable (number - universals)
