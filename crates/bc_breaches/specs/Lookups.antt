-- Declarations of a name.
use Rattle.std.specs.Prelude.{Bool, false}
use Rattle.bc_syntax.specs.declared.syntax.ItemName.{ItemName}
use Rattle.bc_syntax.specs.declared.syntax.Declaration.{Declaration}
use Rattle.bc_syntax.specs.declared.syntax.Declaration.TheVariants.{Struct, Extern}
use Rattle.bc_shapes.specs.Shapes.{same_name}

-- the declaration is a struct of this name
abbrev pub is_struct : ItemName → Declaration → Bool
is_struct name (Struct d) = same_name name d.name
is_struct name (Extern d) = false

-- the declaration is an extern function of this name
abbrev pub is_extern : ItemName → Declaration → Bool
is_extern name (Struct d) = false
is_extern name (Extern d) = same_name name d.name
