-- Shared and mutable.
use Rattle.std.specs.Prelude.{Bool, true, false, not}
use Rattle.bc_syntax.specs.declared.syntax.Mutability.{Mutability}
use Rattle.bc_syntax.specs.declared.syntax.Mutability.TheVariants.{Shared, Mutable}

-- it is mutable, not shared
abbrev pub is_mutable : Mutability → Bool
is_mutable Mutable = true
is_mutable Shared = false

-- both are mutable, or both are shared
abbrev pub same_mutability : Mutability → Mutability → Bool
same_mutability Shared other = not (is_mutable other)
same_mutability Mutable other = is_mutable other
