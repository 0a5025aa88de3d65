-- Types without their regions.
use Rattle.std.specs.Prelude.{Bool, true, false, ◌&&◌, ◌==◌, not, List, [], ◌∷◌, length}
use Rattle.std.specs.Str.{bytes_eq}
use Rattle.bc_syntax.specs.declared.syntax.ClosureInstance.{ClosureInstance}
use Rattle.bc_syntax.specs.declared.syntax.Base.{Base}
use Rattle.bc_syntax.specs.declared.syntax.Base.TheVariants.{Int, Struct, Closure}
use Rattle.bc_syntax.specs.declared.syntax.Instance.{Instance}
use Rattle.bc_syntax.specs.declared.syntax.Ty.{Ty}
use Rattle.bc_syntax.specs.declared.syntax.ItemName.{ItemName}
use Rattle.bc_syntax.specs.declared.syntax.Reference.{Reference}
use Rattle.bc_shapes.specs.Mutabilities.{is_mutable, same_mutability}
use Rattle.bc_shapes.specs.Replaced.{replaced_ty}

-- a type with its regions blanked: without arguments, each becomes `'static`
abbrev pub blanked : Ty → Ty
blanked ty = replaced_ty [] ty

-- two names have the same bytes
abbrev pub same_name : ItemName → ItemName → Bool
same_name first second = bytes_eq first.bytes second.bytes

-- two instances have the same name and equally many regions
abbrev pub alike : Instance → Instance → Bool
alike first second = same_name first.name second.name && length first.regions == length second.regions

-- two closures have the same number and equally many regions
abbrev pub alike_closures : ClosureInstance → ClosureInstance → Bool
alike_closures first second = first.number == second.number && length first.regions == length second.regions

-- two bases have the same shape
abbrev pub alike_bases : Base → Base → Bool
alike_bases Int Int = true
alike_bases Int (Struct instance) = false
alike_bases Int (Closure closure) = false
alike_bases (Struct instance) Int = false
alike_bases (Struct first) (Struct second) = alike first second
alike_bases (Struct instance) (Closure closure) = false
alike_bases (Closure closure) Int = false
alike_bases (Closure closure) (Struct instance) = false
alike_bases (Closure first) (Closure second) = alike_closures first second

-- two types have the same shape, by their references and their bases
abbrev pub alike_types : List Reference → Base → List Reference → Base → Bool
alike_types [] first [] second = alike_bases first second
alike_types [] first (reference ∷ references) second = false
alike_types (reference ∷ references) first [] second = false
alike_types (one ∷ more) first (other ∷ rest) second =
    same_mutability one.mutability other.mutability && alike_types more first rest second

-- two types have the same shape: they are equal apart from their regions
abbrev pub one_shape : Ty → Ty → Bool
one_shape first second = alike_types first.references first.base second.references second.base

-- the base is `int`
abbrev pub is_int_base : Base → Bool
is_int_base Int = true
is_int_base (Struct instance) = false
is_int_base (Closure closure) = false

-- a type with these references and this base is `int`
abbrev pub is_int_behind : List Reference → Base → Bool
is_int_behind [] base = is_int_base base
is_int_behind (reference ∷ references) base = false

-- the type is `int`
abbrev pub is_int_type : Ty → Bool
is_int_type ty = is_int_behind ty.references ty.base

-- a type with these references and this base may be copied: it is `int` or a shared reference
abbrev pub is_copyable_behind : List Reference → Base → Bool
is_copyable_behind [] base = is_int_base base
is_copyable_behind (reference ∷ references) base = not (is_mutable reference.mutability)

-- a type whose values `copy` may take: `int` or a shared reference
abbrev pub is_copyable_type : Ty → Bool
is_copyable_type ty = is_copyable_behind ty.references ty.base
