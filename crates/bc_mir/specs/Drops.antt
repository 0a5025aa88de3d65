-- Which types need drop, closures included.
use Rattle.std.specs.Prelude.{Bool, false, ◌||◌}
use Rattle.std.specs.List.{list_any}
use Rattle.std.specs.Option.{option_map_or}
use Rattle.bc_syntax.specs.declared.syntax.ClosureInstance.{ClosureInstance}
use Rattle.bc_syntax.specs.declared.syntax.Ty.{Ty}
use Rattle.bc_syntax.specs.declared.syntax.Header.{Header}
use Rattle.bc_types.specs.Drops.{holds_drop}
use Rattle.bc_bodies.specs.Mir.{Mir}
use Rattle.bc_shapes.specs.Forms.{closure_of}
use Rattle.bc_bodies.specs.Children.{child_of}

-- a closure needs drop if the type of one of its captures does
abbrev pub closure_holds_drop : Mir → ClosureInstance → Bool
closure_holds_drop mir closure =
    option_map_or (λ (header : Header). list_any (holds_drop mir.types) header.captures) (child_of mir.children closure.number) false

-- the type is a struct that needs drop, or a closure that does
abbrev pub type_holds_drop : Mir → Ty → Bool
type_holds_drop mir ty = holds_drop mir.types ty || option_map_or (closure_holds_drop mir) (closure_of ty) false
