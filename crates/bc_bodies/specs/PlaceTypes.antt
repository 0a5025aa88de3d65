-- Types of places, through the fields of structs. A type is given by its references, the outermost first, and what they
-- lead to.
use Rattle.std.specs.Prelude.{ℕ, Bool, true, ◌&&◌, Option, Some, None, option_and_then, List, [], ◌∷◌, slice_get}
use Rattle.std.specs.Option.{option_map_or}
use Rattle.bc_syntax.specs.declared.syntax.Base.{Base}
use Rattle.bc_syntax.specs.declared.syntax.Base.TheVariants.{Int, Struct, Closure}
use Rattle.bc_syntax.specs.declared.syntax.Ty.{Ty}
use Rattle.bc_syntax.specs.declared.syntax.Place.{Place}
use Rattle.bc_syntax.specs.declared.syntax.Reference.{Reference}
use Rattle.bc_syntax.specs.declared.syntax.Projection.{Projection}
use Rattle.bc_syntax.specs.declared.syntax.Projection.TheVariants.{Deref, Field}
use Rattle.bc_syntax.specs.declared.syntax.Declaration.{Declaration}
use Rattle.bc_shapes.specs.Mutabilities.{is_mutable}
use Rattle.bc_types.specs.Fields.{declared_field, field_type}
use Rattle.bc_bodies.specs.Places.{are_mutable}
use Rattle.bc_bodies.specs.Mir.{Mir}

-- the type of field k of a struct
abbrev pub field_of : List Declaration → Base → ℕ → Option Ty
field_of types Int k = None
field_of types (Struct instance) k = field_type types instance k
field_of types (Closure closure) k = None

-- the type that projections lead to, one after the other: `.*` takes the pointee of a reference, and `.k` a field of a struct
abbrev pub type_behind : List Declaration → List Projection → List Reference → Base → Option Ty
type_behind types [] references base = Some (record { references = references; base = base })
type_behind types (Deref ∷ projections) [] base = None
type_behind types (Deref ∷ projections) (reference ∷ references) base = type_behind types projections references base
type_behind types (Field k ∷ projections) [] base =
    option_and_then (λ (ty : Ty). type_behind types projections ty.references ty.base) (field_of types base k)
type_behind types (Field k ∷ projections) (reference ∷ references) base = None

-- the type of a place, if it has one: that of its local, followed through each projection in turn
abbrev pub type_of_place : Mir → Place → Option Ty
type_of_place mir place =
    option_and_then (λ (local : Ty). type_behind mir.types place.projections local.references local.base) (slice_get mir.locals place.local)

-- the references that projections dereference, in order
abbrev pub references_behind : List Declaration → List Projection → List Reference → Base → List Reference
references_behind types [] references base = []
references_behind types (Deref ∷ projections) [] base = []
references_behind types (Deref ∷ projections) (reference ∷ references) base =
    reference ∷ references_behind types projections references base
references_behind types (Field k ∷ projections) [] base =
    option_map_or (λ (ty : Ty). references_behind types projections ty.references ty.base) (field_of types base k) []
references_behind types (Field k ∷ projections) (reference ∷ references) base = []

-- the references that a place dereferences, in order
abbrev pub references_of_place : Mir → Place → List Reference
references_of_place mir place =
    option_map_or (λ (local : Ty). references_behind mir.types place.projections local.references local.base) (slice_get mir.locals place.local) []

-- projections from a value of this type dereference no shared reference
abbrev pub leads_mutable : List Declaration → List Projection → Ty → Bool
leads_mutable types projections ty = are_mutable (references_behind types projections ty.references ty.base)

-- projections dereference no shared reference; regions do not matter for this, so a field has its declared type
abbrev pub mutable_behind : List Declaration → List Projection → List Reference → Base → Bool
mutable_behind types [] references base = true
mutable_behind types (Deref ∷ projections) [] base = true
mutable_behind types (Deref ∷ projections) (reference ∷ references) base =
    is_mutable reference.mutability && mutable_behind types projections references base
mutable_behind types (Field k ∷ projections) (reference ∷ references) base = true
mutable_behind types (Field k ∷ projections) [] Int = true
mutable_behind types (Field k ∷ projections) [] (Closure closure) = true
mutable_behind types (Field k ∷ projections) [] (Struct instance) =
    option_map_or (λ (ty : Ty). mutable_behind types projections ty.references ty.base) (declared_field types instance.name k) true

-- no shared reference is dereferenced on the way to a place
abbrev pub mutable_on_way : Mir → Place → Bool
mutable_on_way mir place =
    option_map_or (λ (local : Ty). mutable_behind mir.types place.projections local.references local.base) (slice_get mir.locals place.local) true
