-- What well-formed types demand: a reference does not outlive what it points to, so that each region inside its pointee outlives its own.
use Rattle.std.specs.Prelude.{ℕ, ◌+◌, Bool, ◌&&◌, if◌then◌else◌, List, [], ◌∷◌, ◌++◌, length, map, reverse}
use Rattle.std.specs.List.{flat_map, list_any, range_with_len}
use Rattle.bc_syntax.specs.declared.syntax.Region.{Region}
use Rattle.bc_syntax.specs.declared.syntax.Region.TheVariants.{Universal}
use Rattle.bc_syntax.specs.declared.syntax.Reference.{Reference}
use Rattle.bc_syntax.specs.declared.syntax.Instance.{Instance}
use Rattle.bc_syntax.specs.declared.syntax.Base.{Base}
use Rattle.bc_syntax.specs.declared.syntax.Base.TheVariants.{Int, Struct, Closure}
use Rattle.bc_syntax.specs.declared.syntax.Ty.{Ty}
use Rattle.bc_syntax.specs.declared.syntax.StructDeclaration.{StructDeclaration}
use Rattle.bc_syntax.specs.declared.syntax.Declaration.{Declaration}
use Rattle.bc_syntax.specs.declared.syntax.Declaration.TheVariants as kinds
use Rattle.bc_types.specs.declared.subtype.Constraint.{Constraint}
use Rattle.bc_shapes.specs.Shapes.{same_name}
use Rattle.bc_types.specs.Declarations.{takes_regions}
use Rattle.bc_types.specs.Mentions.{regions_of_references, regions_of_base}
use Rattle.bc_shapes.specs.Replaced.{replaced_region}
use Rattle.bc_types.specs.Subtype.{outlives, same_region}

-- each of these regions outlives another one
abbrev pub each_outlives : List Region → Region → List Constraint
each_outlives regions shorter = map (λ region. outlives region shorter) regions

-- what the references of a type demand, the outermost first: each region inside the pointee of a reference outlives that of the reference
abbrev pub reference_pairs : List Reference → Base → List Constraint
reference_pairs [] base = []
reference_pairs (reference ∷ references) base =
    each_outlives (regions_of_references references ++ regions_of_base base) reference.region ++ reference_pairs references base

-- a pair of a declaration, with its regions replaced by arguments
abbrev pub replaced_pair : List Region → Constraint → Constraint
replaced_pair arguments pair =
    outlives (replaced_region arguments pair.longer) (replaced_region arguments pair.shorter)

-- What a struct demands of its arguments, if `declared` says what its declaration demands of the struct's own regions. A closure demands
-- nothing here: `bc_mir` says what it does demand, given the headers of the children.
abbrev pub base_pairs : (Instance → List Constraint) → Base → List Constraint
base_pairs declared Int = []
base_pairs declared (Struct instance) = map (replaced_pair instance.regions) (declared instance)
base_pairs declared (Closure closure) = []

-- what a type demands: what its references demand, then what its base demands
abbrev pub pairs_over : (Instance → List Constraint) → Ty → List Constraint
pairs_over declared ty = reference_pairs ty.references ty.base ++ base_pairs declared ty.base

-- ---- structs

-- the pair has these two universal regions, by number; `'static` has 0
abbrev pub is_pair : ℕ → ℕ → Constraint → Bool
is_pair longer shorter pair = same_region (Universal longer) pair.longer && same_region (Universal shorter) pair.shorter

-- these pairs demand that one region outlives another
abbrev pub is_demanded : List Constraint → ℕ → ℕ → Bool
is_demanded pairs longer shorter = list_any (is_pair longer shorter) pairs

-- the pair of two regions if a test is true of them
abbrev pub pair_where : (ℕ → ℕ → Bool) → ℕ → ℕ → List Constraint
pair_where test longer shorter = if test longer shorter then outlives (Universal longer) (Universal shorter) ∷ [] else []

-- the pairs of a region with each of the first `count` ones for which a test is true
abbrev pub row_where : (ℕ → ℕ → Bool) → ℕ → ℕ → List Constraint
row_where test count longer = flat_map (pair_where test longer) (range_with_len 0 count)

-- the pairs of the first `count` regions for which a test is true, by the longer region and then by the shorter one
abbrev pub pairs_where : (ℕ → ℕ → Bool) → ℕ → List Constraint
pairs_where test count = flat_map (row_where test count) (range_with_len 0 count)

-- what the types of a struct's fields demand of `'static` and the struct's own regions, each pair once
abbrev pub field_pairs : (Instance → List Constraint) → StructDeclaration → List Constraint
field_pairs declared d = pairs_where (is_demanded (flat_map (pairs_over declared) d.fields)) (length d.regions + 1)

-- What the declaration of a struct demands of the struct's own regions: what the types of its fields demand. A struct that is not declared
-- with the instance's number of regions demands nothing. The last declaration comes first, so that the ones that its fields mention follow
-- it.
abbrev pub struct_pairs : List Declaration → Instance → List Constraint
struct_pairs [] instance = []
struct_pairs (kinds.Struct d ∷ earlier) instance =
    if same_name instance.name d.name
    then (if takes_regions instance d then field_pairs (struct_pairs earlier) d else [])
    else struct_pairs earlier instance
struct_pairs (kinds.Extern d ∷ earlier) instance = struct_pairs earlier instance

-- what a well-formed type demands, over declarations of which the last comes first
abbrev pub well_formed_among : List Declaration → Ty → List Constraint
well_formed_among earlier ty = pairs_over (struct_pairs earlier) ty

-- the pairs that a well-formed type demands, of a region and one that it outlives: `int` demands none, a reference that each region inside
-- its pointee outlives its own, and a struct what the types of its fields demand, with its regions replaced by its arguments (RFC 1214)
abbrev pub well_formed_pairs : List Declaration → Ty → List Constraint
well_formed_pairs declarations ty = well_formed_among (reverse declarations) ty

-- what types of a declaration or of a header demand, in order, with the declared regions replaced by arguments (RFC 1214)
abbrev pub replaced_well_formed : List Declaration → List Region → List Ty → List Constraint
replaced_well_formed declarations arguments types =
    map (replaced_pair arguments) (flat_map (well_formed_pairs declarations) types)
