-- Types that need drop.
use Rattle.std.specs.Prelude.{Bool, false, ◌&&◌, ◌||◌, if◌then◌else◌, List, [], ◌∷◌, reverse}
use Rattle.std.specs.List.{list_any}
use Rattle.bc_syntax.specs.declared.syntax.Reference.{Reference}
use Rattle.bc_syntax.specs.declared.syntax.Instance.{Instance}
use Rattle.bc_syntax.specs.declared.syntax.Base.{Base}
use Rattle.bc_syntax.specs.declared.syntax.Base.TheVariants as bases
use Rattle.bc_syntax.specs.declared.syntax.Ty.{Ty}
use Rattle.bc_syntax.specs.declared.syntax.Declaration.{Declaration}
use Rattle.bc_syntax.specs.declared.syntax.Declaration.TheVariants.{Struct, Extern}
use Rattle.bc_shapes.specs.Shapes.{same_name}
use Rattle.bc_types.specs.Declarations.{takes_regions}

-- the base is a struct that passes a test
abbrev pub is_struct_that : (Instance → Bool) → Base → Bool
is_struct_that holds bases.Int = false
is_struct_that holds (bases.Struct instance) = holds instance
is_struct_that holds (bases.Closure closure) = false

-- the type is no reference, and a struct that passes a test
abbrev pub is_value_that : (Instance → Bool) → List Reference → Base → Bool
is_value_that holds [] base = is_struct_that holds base
is_value_that holds (reference ∷ references) base = false

-- A struct needs drop if it is declared with the instance's number of regions, and is marked `drop` or has a field whose type needs drop.
-- The last declaration comes first, so that the ones that its fields mention follow it.
abbrev pub struct_holds_drop : List Declaration → Instance → Bool
struct_holds_drop [] instance = false
struct_holds_drop (Struct d ∷ earlier) instance =
    if same_name instance.name d.name
    then takes_regions instance d
    && (d.has_drop || list_any (λ (field : Ty). is_value_that (struct_holds_drop earlier) field.references field.base) d.fields)
    else struct_holds_drop earlier instance
struct_holds_drop (Extern d ∷ earlier) instance = struct_holds_drop earlier instance

-- the type is a struct that needs drop, over declarations of which the last comes first
abbrev pub holds_drop_among : List Declaration → Ty → Bool
holds_drop_among earlier ty = is_value_that (struct_holds_drop earlier) ty.references ty.base

-- the type is a struct that needs drop
abbrev pub holds_drop : List Declaration → Ty → Bool
holds_drop declarations ty = holds_drop_among (reverse declarations) ty
