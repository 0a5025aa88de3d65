-- Declarations by name, and which of them are good. A list named `earlier` has the last declaration first, so that those before a
-- declaration follow it.
use Rattle.std.specs.Prelude.{ℕ, ◌+◌, ◌-◌, Bool, true, false, ◌&&◌, ◌||◌, ◌==◌, not, nat_lt, if◌then◌else◌, Option, Some, None, is_some, List, [], ◌∷◌, length, reverse, slice_get}
use Rattle.std.specs.List.{list_all}
use Rattle.std.specs.Option.{option_map_or}
use Rattle.bc_syntax.specs.declared.syntax.Region.{Region}
use Rattle.bc_syntax.specs.declared.syntax.Region.TheVariants.{Universal, Variable}
use Rattle.bc_syntax.specs.declared.syntax.Reference.{Reference}
use Rattle.bc_syntax.specs.declared.syntax.ItemName.{ItemName}
use Rattle.bc_syntax.specs.declared.syntax.Instance.{Instance}
use Rattle.bc_syntax.specs.declared.syntax.Base.{Base}
use Rattle.bc_syntax.specs.declared.syntax.Base.TheVariants as bases
use Rattle.bc_syntax.specs.declared.syntax.Ty.{Ty}
use Rattle.bc_syntax.specs.declared.syntax.Variance.{Variance}
use Rattle.bc_syntax.specs.declared.syntax.Variance.TheVariants.{Covariant, Invariant}
use Rattle.bc_syntax.specs.declared.syntax.StructDeclaration.{StructDeclaration}
use Rattle.bc_syntax.specs.declared.syntax.ExternDeclaration.{ExternDeclaration}
use Rattle.bc_syntax.specs.declared.syntax.Declaration.{Declaration}
use Rattle.bc_syntax.specs.declared.syntax.Declaration.TheVariants.{Struct, Extern}
use Rattle.bc_shapes.specs.Mutabilities.{is_mutable}
use Rattle.bc_shapes.specs.Shapes.{same_name}

-- the struct of a name, the last one if several have it
abbrev pub struct_among : List Declaration → ItemName → Option StructDeclaration
struct_among [] name = None
struct_among (Struct d ∷ earlier) name = if same_name name d.name then Some d else struct_among earlier name
struct_among (Extern d ∷ earlier) name = struct_among earlier name

-- the extern function of a name, the last one if several have it
abbrev pub extern_among : List Declaration → ItemName → Option ExternDeclaration
extern_among [] name = None
extern_among (Struct d ∷ earlier) name = extern_among earlier name
extern_among (Extern d ∷ earlier) name = if same_name name d.name then Some d else extern_among earlier name

-- a struct has as many regions as an instance gives it
abbrev pub takes_regions : Instance → StructDeclaration → Bool
takes_regions instance d = length d.regions == length instance.regions

-- a struct is among the declarations, with the instance's number of regions. A closure is checked against the children, which are not known
-- here
abbrev pub is_declared : List Declaration → Base → Bool
is_declared earlier bases.Int = true
is_declared earlier (bases.Struct instance) = option_map_or (takes_regions instance) (struct_among earlier instance.name) false
is_declared earlier (bases.Closure closure) = true

-- ---- invariant positions

-- a region that occurs in a type, and whether its position there is invariant
pub record Position : Type 0 where
  pub region : Region
  pub invariant : Bool

-- the region is marked `=`
abbrev pub is_invariant : Variance → Bool
is_invariant Covariant = false
is_invariant Invariant = true

-- the positions of the arguments of a struct: one for a region marked `=` is invariant, and so is each one if the struct is in an invariant
-- position
abbrev pub argument_positions : Bool → List Variance → List Region → List Position
argument_positions invariant [] regions = []
argument_positions invariant (variance ∷ variances) [] = []
argument_positions invariant (variance ∷ variances) (region ∷ regions) =
    record { region = region; invariant = invariant || is_invariant variance } ∷ argument_positions invariant variances regions

-- the positions of the arguments of a struct, if it is declared; a closure has none here, since no declaration mentions one
abbrev pub base_positions : List Declaration → Bool → Base → List Position
base_positions earlier invariant bases.Int = []
base_positions earlier invariant (bases.Struct instance) =
    option_map_or (λ (d : StructDeclaration). argument_positions invariant d.variances instance.regions) (struct_among earlier instance.name) []
base_positions earlier invariant (bases.Closure closure) = []

-- The positions of the regions in a type; `invariant` says whether the type is in an invariant position. The region of a reference has the
-- position of the reference. Everything inside the pointee of a `&mut` is in an invariant position.
abbrev pub positions_in : List Declaration → Bool → List Reference → Base → List Position
positions_in earlier invariant [] base = base_positions earlier invariant base
positions_in earlier invariant (reference ∷ references) base =
    record { region = reference.region; invariant = invariant }
    ∷ positions_in earlier (invariant || is_mutable reference.mutability) references base

-- the positions of the regions in a type, in order (rustc-dev-guide, "Variance")
abbrev pub positions : List Declaration → Ty → List Position
positions earlier ty = positions_in earlier false ty.references ty.base

-- ---- good declarations

-- the region is a parameter marked `+`; the parameters have the numbers 1 and up
abbrev pub is_covariant : List Variance → Region → Bool
is_covariant variances (Universal number) =
    nat_lt 0 number && option_map_or (λ variance. not (is_invariant variance)) (slice_get variances (number - 1)) false
is_covariant variances (Variable number) = false

-- a region may be in its position: the position is not invariant, or the region is not marked `+`
abbrev pub stands_well : List Variance → Position → Bool
stands_well variances position = not (position.invariant && is_covariant variances position.region)

-- the struct that a field's type mentions is declared, with its number of regions, and no region marked `+` is in an invariant position of
-- the type
abbrev pub is_good_field : List Declaration → List Variance → Ty → Bool
is_good_field earlier variances ty = is_declared earlier ty.base && list_all (stands_well variances) (positions earlier ty)

-- the struct that a type mentions is declared, with its number of regions
abbrev pub has_declared_base : List Declaration → Ty → Bool
has_declared_base earlier ty = is_declared earlier ty.base

-- a declaration is good after the earlier ones: none of its kind has its name, each struct that it mentions is one of them and has its
-- number of regions, and no region marked `+` is in an invariant position of a field
abbrev pub is_good : List Declaration → Declaration → Bool
is_good earlier (Struct d) =
    not (is_some (struct_among earlier d.name)) && list_all (is_good_field earlier d.variances) d.fields
is_good earlier (Extern d) =
    not (is_some (extern_among earlier d.name))
    && (list_all (has_declared_base earlier) d.signature.parameters && has_declared_base earlier d.signature.result)

-- the number of the first bad declaration after the earlier ones, if the first of these declarations has this number
abbrev pub first_bad_behind : List Declaration → ℕ → List Declaration → Option ℕ
first_bad_behind earlier number [] = None
first_bad_behind earlier number (d ∷ ds) = if is_good earlier d then first_bad_behind (d ∷ earlier) (number + 1) ds else Some number

-- the number of the first bad declaration, if there is one; they are numbered from 0
abbrev pub first_bad : List Declaration → Option ℕ
first_bad declarations = first_bad_behind [] 0 declarations

-- ---- declarations in order

-- the struct of a name
abbrev pub struct_of : List Declaration → ItemName → Option StructDeclaration
struct_of declarations name = struct_among (reverse declarations) name

-- the extern function of a name
abbrev pub extern_of : List Declaration → ItemName → Option ExternDeclaration
extern_of declarations name = extern_among (reverse declarations) name
