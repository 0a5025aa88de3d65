-- The types of the fields of structs.
use Rattle.std.specs.Prelude.{ℕ, Option, option_and_then, List, slice_get}
use Rattle.std.specs.Option.{option_map}
use Rattle.bc_syntax.specs.declared.syntax.Instance.{Instance}
use Rattle.bc_syntax.specs.declared.syntax.Ty.{Ty}
use Rattle.bc_syntax.specs.declared.syntax.ItemName.{ItemName}
use Rattle.bc_syntax.specs.declared.syntax.StructDeclaration.{StructDeclaration}
use Rattle.bc_syntax.specs.declared.syntax.Declaration.{Declaration}
use Rattle.bc_shapes.specs.Replaced.{replaced_ty}
use Rattle.bc_types.specs.Declarations.{struct_of}

-- the type of a field as its struct declares it
abbrev pub declared_field : List Declaration → ItemName → ℕ → Option Ty
declared_field declarations name field =
    option_and_then (λ (d : StructDeclaration). slice_get d.fields field) (struct_of declarations name)

-- the type of a field of a struct, with the struct's regions replaced by the instance's
abbrev pub field_type : List Declaration → Instance → ℕ → Option Ty
field_type declarations instance field =
    option_map (replaced_ty instance.regions) (declared_field declarations instance.name field)
