-- A region outlives another.
use Rattle.std.specs.Prelude.{Bool, false, ◌==◌}
use Rattle.bc_syntax.specs.declared.syntax.Region.{Region}
use Rattle.bc_syntax.specs.declared.syntax.Region.TheVariants.{Universal, Variable}
use Rattle.bc_types.specs.declared.subtype.Constraint.{Constraint}

-- the pair of a region and one that it outlives
abbrev pub outlives : Region → Region → Constraint
outlives longer shorter = record { longer = longer; shorter = shorter }

-- two regions are the same
abbrev pub same_region : Region → Region → Bool
same_region (Universal u) (Universal v) = u == v
same_region (Variable v) (Variable w) = v == w
same_region (Universal u) (Variable v) = false
same_region (Variable v) (Universal u) = false
