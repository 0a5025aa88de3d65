-- What is stored of declarations by name.
use Rattle.std.specs.Prelude.{◌≡◌, ℕ, ◌||◌, if◌then◌else◌, Option, Some, None, List, [], ◌∷◌, length, reverse, slice_get, option_and_then}
use Rattle.std.specs.List.{list_any}
use Rattle.std.specs.Str.{bytes_eq}
use Rattle.std.specs.HashMap.{HashMap, get_by}
use Rattle.bc_syntax.specs.declared.syntax.StructDeclaration.{StructDeclaration}
use Rattle.bc_syntax.specs.declared.syntax.ExternDeclaration.{ExternDeclaration}
use Rattle.bc_syntax.specs.declared.syntax.Declaration.{Declaration}
use Rattle.bc_syntax.specs.declared.syntax.Declaration.TheVariants.{Struct, Extern}
use Rattle.bc_types.specs.declared.table.KnownStruct.{KnownStruct}
use Rattle.bc_types.specs.Drops.{holds_drop_among}
use Rattle.bc_types.specs.WellFormed.{field_pairs, struct_pairs}

-- a declaration as a struct, if it is one
abbrev pub as_struct : Declaration → Option StructDeclaration
as_struct (Struct d) = Some d
as_struct (Extern d) = None

-- the struct at a position in declarations
abbrev pub struct_at : List Declaration → ℕ → Option StructDeclaration
struct_at declarations position = option_and_then as_struct (slice_get declarations position)

-- a declaration as an extern function, if it is one
abbrev pub as_extern : Declaration → Option ExternDeclaration
as_extern (Struct d) = None
as_extern (Extern d) = Some d

-- the extern function at a position in declarations
abbrev pub extern_at : List Declaration → ℕ → Option ExternDeclaration
extern_at declarations position = option_and_then as_extern (slice_get declarations position)

-- what is stored of a struct after other declarations: its position, whether it needs drop, and what the types of its fields demand of its
-- own regions
abbrev pub known_behind : List Declaration → StructDeclaration → KnownStruct
known_behind earlier d = record {
  position = length earlier;
  holds_drop = d.has_drop || list_any (holds_drop_among earlier) d.fields;
  pairs = field_pairs (struct_pairs earlier) d;
}

-- what is stored of the struct with this name, over declarations of which the last comes first
abbrev pub known_struct : List Declaration → List ℕ → Option KnownStruct
known_struct [] name = None
known_struct (Struct d ∷ earlier) name =
    if bytes_eq name d.name.bytes
    then Some (known_behind earlier d)
    else known_struct earlier name
known_struct (Extern d ∷ earlier) name = known_struct earlier name

-- the position of the extern function with this name
abbrev pub known_extern : List Declaration → List ℕ → Option ℕ
known_extern [] name = None
known_extern (Struct d ∷ earlier) name = known_extern earlier name
known_extern (Extern d ∷ earlier) name = if bytes_eq name d.name.bytes then Some (length earlier) else known_extern earlier name

module _ {K S : Type 0} (bytes : K → List ℕ) where
  -- each name leads to its last declaration
  pub record AreKnown (declarations : List Declaration) (structs : HashMap K KnownStruct S) (externs : HashMap K ℕ S) : Type 0 where
    pub known_structs : (name : List ℕ) → get_by (λ k. bytes_eq name (bytes k)) structs ≡ known_struct (reverse declarations) name
    pub known_externs : (name : List ℕ) → get_by (λ k. bytes_eq name (bytes k)) externs ≡ known_extern (reverse declarations) name

module _ {K X S : Type 0} (bytes : K → List ℕ) where
  -- a name leads to a value, and each other name leads where it did
  abbrev pub Adds : HashMap K X S → HashMap K X S → List ℕ → X → Type 0
  Adds old new name value =
      (other : List ℕ) → get_by (λ k. bytes_eq other (bytes k)) new ≡ (if bytes_eq other name then Some value else get_by (λ k. bytes_eq other (bytes k)) old)
