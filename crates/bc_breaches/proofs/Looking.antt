-- Structs and extern functions by name.
use Rattle.std.proofs.Common.{◌≡◌, true, false, ◌||◌, cond, Option, Some, None, List, [], ◌∷◌, refl}
use Rattle.std.specs.Prelude.{is_some, option_and_then}
use Rattle.std.specs.List.{find, list_any}
use Rattle.bc_syntax.specs.declared.syntax.ItemName.{ItemName}
use Rattle.bc_syntax.specs.declared.syntax.StructDeclaration.{StructDeclaration}
use Rattle.bc_syntax.specs.declared.syntax.Declaration.{Declaration}
use Rattle.bc_syntax.specs.declared.syntax.Declaration.TheVariants.{Struct, Extern}
use Rattle.bc_shapes.specs.Shapes.{same_name}
use Rattle.bc_types.specs.Declarations.{struct_among, extern_among}
use Rattle.bc_breaches.specs.Lookups.{is_struct, is_extern}

-- the struct that a declaration is
abbrev pub struct_in : Declaration → Option StructDeclaration
struct_in (Struct d) = Some d
struct_in (Extern d) = None

-- the struct of a name is the one that is found first
pub found_struct : (earlier : List Declaration) (name : ItemName) → option_and_then struct_in (find (is_struct name) earlier) ≡ struct_among earlier name
found_struct [] name = refl
found_struct (Struct d ∷ earlier) name =
    elim (same_name name d.name) as (λ b. option_and_then struct_in (cond b (Some (Struct d)) (find (is_struct name) earlier)) ≡ cond b (Some d) (struct_among earlier name)) [
      | true ↦ refl
      | false ↦ found_struct earlier name
    ]
found_struct (Extern d ∷ earlier) name = found_struct earlier name

-- an extern function of a name is found exactly if one has it
pub found_extern : (earlier : List Declaration) (name : ItemName) → list_any (is_extern name) earlier ≡ is_some (extern_among earlier name)
found_extern [] name = refl
found_extern (Struct d ∷ earlier) name = found_extern earlier name
found_extern (Extern d ∷ earlier) name =
    elim (same_name name d.name) as (λ b. (b || list_any (is_extern name) earlier) ≡ is_some (cond b (Some d) (extern_among earlier name))) [
      | true ↦ refl
      | false ↦ found_extern earlier name
    ]
