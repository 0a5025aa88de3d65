-- Which region must outlive which, so that one type is a subtype of another.
use Rattle.std.specs.Prelude.{Bool, true, false, ◌||◌, if◌then◌else◌, List, [], ◌∷◌, ◌++◌}
use Rattle.std.specs.Option.{option_map_or}
use Rattle.bc_syntax.specs.declared.syntax.Region.{Region}
use Rattle.bc_syntax.specs.declared.syntax.Reference.{Reference}
use Rattle.bc_syntax.specs.declared.syntax.Variance.{Variance}
use Rattle.bc_syntax.specs.declared.syntax.ClosureInstance.{ClosureInstance}
use Rattle.bc_syntax.specs.declared.syntax.Base.{Base}
use Rattle.bc_syntax.specs.declared.syntax.Base.TheVariants.{Int, Struct, Closure}
use Rattle.bc_syntax.specs.declared.syntax.Ty.{Ty}
use Rattle.bc_syntax.specs.declared.syntax.StructDeclaration.{StructDeclaration}
use Rattle.bc_syntax.specs.declared.syntax.Declaration.{Declaration}
use Rattle.bc_types.specs.declared.subtype.Constraint.{Constraint}
use Rattle.bc_types.specs.Declarations.{is_invariant, struct_of}
use Rattle.bc_shapes.specs.Mutabilities.{is_mutable}
use Rattle.bc_types.specs.Subtype.{outlives}

-- a region outlives another, and in an invariant position also the other way round
abbrev pub related : Bool → Region → Region → List Constraint
related invariant longer shorter = outlives longer shorter ∷ (if invariant then outlives shorter longer ∷ [] else [])

-- the pairs of the arguments of two structs of one declaration: an argument for a region marked `=` is invariant, and so is each one in an
-- invariant position
abbrev pub related_arguments : Bool → List Variance → List Region → List Region → List Constraint
related_arguments invariant [] rs ss = []
related_arguments invariant (variance ∷ variances) [] ss = []
related_arguments invariant (variance ∷ variances) (r ∷ rs) [] = []
related_arguments invariant (variance ∷ variances) (r ∷ rs) (s ∷ ss) =
    related (invariant || is_invariant variance) r s ++ related_arguments invariant variances rs ss

-- the pairs of the regions of two closures: each is invariant
abbrev pub related_regions : List Region → List Region → List Constraint
related_regions [] ss = []
related_regions (r ∷ rs) [] = []
related_regions (r ∷ rs) (s ∷ ss) = related true r s ++ related_regions rs ss

-- the pairs of a closure and another base: those of their regions if that is a closure too, otherwise none
abbrev pub related_closures : ClosureInstance → Base → List Constraint
related_closures closure Int = []
related_closures closure (Struct instance) = []
related_closures closure (Closure other) = related_regions closure.regions other.regions

-- the pairs of two bases: of two structs those of their arguments, of two closures those of their regions
abbrev pub related_bases : List Declaration → Bool → Base → Base → List Constraint
related_bases types invariant Int other = []
related_bases types invariant (Struct instance) Int = []
related_bases types invariant (Struct instance) (Closure other) = []
related_bases types invariant (Struct instance) (Struct other) =
    option_map_or (λ (d : StructDeclaration). related_arguments invariant d.variances instance.regions other.regions) (struct_of types instance.name) []
related_bases types invariant (Closure closure) other = related_closures closure other

-- The pairs of two types; `invariant` says whether they are in an invariant position. The region of a reference has the position of the
-- reference. Everything inside the pointee of a `&mut` is in an invariant position.
abbrev pub related_types : List Declaration → Bool → List Reference → Base → List Reference → Base → List Constraint
related_types types invariant [] base us other = related_bases types invariant base other
related_types types invariant (t ∷ ts) base [] other = []
related_types types invariant (t ∷ ts) base (u ∷ us) other =
    related invariant t.region u.region ++ related_types types (invariant || is_mutable t.mutability) ts base us other

-- the pairs (longer, shorter) that T <: U needs, for types of the same shape (RFC 2094, "Subtyping"; rustc-dev-guide, "Variance")
abbrev pub sub : List Declaration → Ty → Ty → List Constraint
sub types value target = related_types types false value.references value.base target.references target.base
