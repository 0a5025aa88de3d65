-- What types demand: references, and what is stored of a struct.
use Rattle.std.proofs.Common.{◌≡◌, Bool, true, false, cond, Option, Some, List, [], ◌∷◌, ◌++◌, map, refl, ap, ◌∙◌}
use Rattle.std.specs.Option.{option_map, option_map_or, unwrap_or}
use Rattle.std.specs.Str.{bytes_eq}
use Rattle.bc_syntax.specs.declared.syntax.Region.{Region}
use Rattle.bc_syntax.specs.declared.syntax.Reference.{Reference}
use Rattle.bc_syntax.specs.declared.syntax.Instance.{Instance}
use Rattle.bc_syntax.specs.declared.syntax.Declaration.{Declaration}
use Rattle.bc_syntax.specs.declared.syntax.Declaration.TheVariants.{Struct, Extern}
use Rattle.bc_types.specs.declared.subtype.Constraint.{Constraint}
use Rattle.bc_types.specs.declared.table.KnownStruct.{KnownStruct}
use Rattle.bc_types.specs.Declarations.{struct_among, takes_regions}
use Rattle.bc_types.specs.Known.{known_behind, known_struct}
use Rattle.bc_types.specs.Mentions.{regions_of_references}
use Rattle.bc_types.specs.Subtype.{outlives}
use Rattle.bc_types.specs.WellFormed.{each_outlives, field_pairs, struct_pairs}

-- the regions inside a pointee are those of its references and of its base
pub behind_pairs : (references : List Reference) (regions : List Region) (shorter : Region) →
    each_outlives (regions_of_references references ++ regions) shorter ≡ map (λ (reference : Reference). outlives reference.region shorter) references ++ each_outlives regions shorter
behind_pairs [] regions shorter = refl
behind_pairs (reference ∷ references) regions shorter = ap (λ ps. outlives reference.region shorter ∷ ps) (behind_pairs references regions shorter)

abbrev pairs_known : Option KnownStruct → List Constraint
pairs_known known = unwrap_or (option_map (λ (k : KnownStruct). k.pairs) known) []

-- a struct demands what is stored under its name if it is declared with its number of regions, otherwise nothing
pub known-pairs : (earlier : List Declaration) (instance : Instance) →
    cond (option_map_or (takes_regions instance) (struct_among earlier instance.name) false) (pairs_known (known_struct earlier instance.name.bytes)) [] ≡ struct_pairs earlier instance
known-pairs [] instance = refl
known-pairs (Extern d ∷ earlier) instance = known-pairs earlier instance
known-pairs (Struct d ∷ earlier) instance = by (bytes_eq instance.name.bytes d.name.bytes) (known-pairs earlier instance)
  where
    by : (same : Bool) → cond (option_map_or (takes_regions instance) (struct_among earlier instance.name) false) (pairs_known (known_struct earlier instance.name.bytes)) [] ≡ struct_pairs earlier instance
        → cond (option_map_or (takes_regions instance) (cond same (Some d) (struct_among earlier instance.name)) false) (pairs_known (cond same (Some (known_behind earlier d)) (known_struct earlier instance.name.bytes))) []
        ≡ cond same (cond (takes_regions instance d) (field_pairs (struct_pairs earlier) d) []) (struct_pairs earlier instance)
    by true rest = refl
    by false rest = rest

pub where-holds : {A : Type 0} (test : Bool) (then otherwise all : A) → true ≡ test → cond test then otherwise ≡ all → then ≡ all
where-holds test then otherwise all holds is = ap (λ t. cond t then otherwise) holds ∙ is

pub where-fails : {A : Type 0} (test : Bool) (then otherwise all : A) → false ≡ test → cond test then otherwise ≡ all → otherwise ≡ all
where-fails test then otherwise all fails is = ap (λ t. cond t then otherwise) fails ∙ is
