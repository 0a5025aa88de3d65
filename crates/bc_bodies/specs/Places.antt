-- The references and projections that the rules for writing, moving and dropping a place allow.
use Rattle.std.specs.Prelude.{Bool, true, false, List}
use Rattle.std.specs.List.{list_all}
use Rattle.bc_syntax.specs.declared.syntax.Place.{Place}
use Rattle.bc_syntax.specs.declared.syntax.Operand.{Operand}
use Rattle.bc_syntax.specs.declared.syntax.Operand.TheVariants.{Copy, Move, Number}
use Rattle.bc_syntax.specs.declared.syntax.Reference.{Reference}
use Rattle.bc_syntax.specs.declared.syntax.Projection.{Projection}
use Rattle.bc_syntax.specs.declared.syntax.Projection.TheVariants.{Deref, Field}
use Rattle.bc_shapes.specs.Mutabilities.{is_mutable}

-- all these references are mutable
abbrev pub are_mutable : List Reference → Bool
are_mutable references = list_all (λ (reference : Reference). is_mutable reference.mutability) references

-- the projection is a field
abbrev pub is_field : Projection → Bool
is_field Deref = false
is_field (Field k) = true

-- the projection is a dereference
abbrev pub is_deref : Projection → Bool
is_deref Deref = true
is_deref (Field k) = false

-- the place goes through no field
abbrev pub has_no_field : Place → Bool
has_no_field place = list_all is_deref place.projections

-- the place has no `.*`
abbrev pub has_no_deref : Place → Bool
has_no_deref place = list_all is_field place.projections

-- the operand copies or moves a place without fields
abbrev pub takes_no_field : Operand → Bool
takes_no_field (Copy place) = has_no_field place
takes_no_field (Move place) = has_no_field place
takes_no_field (Number n) = false
