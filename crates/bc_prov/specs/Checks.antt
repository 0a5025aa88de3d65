-- The result of checking declarations.
use Rattle.std.specs.Prelude.{◌≡◌, List, Some, None}
use Rattle.std.specs.Arc.{arc_value}
use Rattle.bc_syntax.specs.declared.syntax.Declaration.{Declaration}
use Rattle.bc_types.specs.Declarations.{first_bad}
use Rattle.bc_prov.specs.declared.declared.Check.{Check}
use Rattle.bc_prov.specs.declared.declared.Check.TheVariants.{Good, Bad}

-- the result of a check: the declarations themselves if none is bad, otherwise the index of the first bad one
abbrev pub IsCheckOf : List Declaration → Check → Type 0
IsCheckOf types (Good good) = (arc_value good ≡ types) × (first_bad types ≡ None)
IsCheckOf types (Bad index) = first_bad types ≡ Some index
