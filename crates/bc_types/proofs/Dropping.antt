-- What is stored of a struct says whether it needs drop.
use Rattle.std.proofs.Common.{◌≡◌, Bool, true, false, cond, ◌&&◌, ◌||◌, Option, Some, List, [], ◌∷◌, refl, sym, ap, ◌∙◌}
use Rattle.std.specs.List.{list_any}
use Rattle.std.specs.Option.{option_map_or}
use Rattle.std.specs.Str.{bytes_eq}
use Rattle.bc_syntax.specs.declared.syntax.Instance.{Instance}
use Rattle.bc_syntax.specs.declared.syntax.Declaration.{Declaration}
use Rattle.bc_syntax.specs.declared.syntax.Declaration.TheVariants.{Struct, Extern}
use Rattle.bc_types.specs.declared.table.KnownStruct.{KnownStruct}
use Rattle.bc_types.specs.Declarations.{struct_among, takes_regions}
use Rattle.bc_types.specs.Drops.{struct_holds_drop, holds_drop_among}
use Rattle.bc_types.specs.Known.{known_behind, known_struct}

abbrev is_marked : Option KnownStruct → Bool
is_marked known = option_map_or (λ (k : KnownStruct). k.holds_drop) known false

-- a struct needs drop if it is declared with its number of regions, and stored as one that does
pub marked_drop : (earlier : List Declaration) (instance : Instance) → option_map_or (takes_regions instance) (struct_among earlier instance.name) false && is_marked (known_struct earlier instance.name.bytes) ≡ struct_holds_drop earlier instance
marked_drop [] instance = refl
marked_drop (Extern d ∷ earlier) instance = marked_drop earlier instance
marked_drop (Struct d ∷ earlier) instance = by (bytes_eq instance.name.bytes d.name.bytes) (marked_drop earlier instance)
  where
    by : (same : Bool) → option_map_or (takes_regions instance) (struct_among earlier instance.name) false && is_marked (known_struct earlier instance.name.bytes) ≡ struct_holds_drop earlier instance
        → option_map_or (takes_regions instance) (cond same (Some d) (struct_among earlier instance.name)) false
        && is_marked (cond same (Some (known_behind earlier d)) (known_struct earlier instance.name.bytes))
        ≡ cond same (takes_regions instance d && (d.has_drop || list_any (holds_drop_among earlier) d.fields)) (struct_holds_drop earlier instance)
    by true rest = refl
    by false rest = rest

pub and-holds : (a b both : Bool) → true ≡ a → a && b ≡ both → b ≡ both
and-holds a b both holds is = ap (λ t. t && b) holds ∙ is

pub and-fails : (a b both : Bool) → false ≡ a → a && b ≡ both → a ≡ both
and-fails a b both fails is = sym fails ∙ ap (λ t. t && b) fails ∙ is
