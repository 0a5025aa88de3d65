-- Supporting prefixes, through the fields of structs.
use Rattle.std.specs.Prelude.{Bool, false, List, [], ◌∷◌, slice_get}
use Rattle.std.specs.Option.{option_map_or}
use Rattle.bc_syntax.specs.declared.syntax.Base.{Base}
use Rattle.bc_syntax.specs.declared.syntax.Base.TheVariants.{Int, Struct, Closure}
use Rattle.bc_syntax.specs.declared.syntax.Ty.{Ty}
use Rattle.bc_syntax.specs.declared.syntax.Place.{Place}
use Rattle.bc_syntax.specs.declared.syntax.Reference.{Reference}
use Rattle.bc_syntax.specs.declared.syntax.Projection.{Projection}
use Rattle.bc_syntax.specs.declared.syntax.Projection.TheVariants.{Deref, Field}
use Rattle.bc_syntax.specs.declared.syntax.Declaration.{Declaration}
use Rattle.bc_points.specs.Prefixes.{rest_of}
use Rattle.bc_types.specs.Fields.{declared_field}
use Rattle.bc_bodies.specs.Mir.{Mir}
use Rattle.bc_bodies.specs.PlaceTypes.{type_of_place, leads_mutable, mutable_behind}

-- these projections of a place dereference no shared reference
abbrev pub goes_on_mutable : Mir → Place → List Projection → Bool
goes_on_mutable mir prefix rest = option_map_or (leads_mutable mir.types rest) (type_of_place mir prefix) false

-- a supporting prefix of a place: what is taken away from the place dereferences no shared reference (RFC 2094, "Reborrow constraints")
abbrev pub supports : Mir → Place → Place → Bool
supports mir prefix place = option_map_or (goes_on_mutable mir prefix) (rest_of prefix place) false

-- the first projections lead to a type from which the rest dereference no shared reference; each field has its declared type
abbrev pub supports_behind : List Declaration → List Projection → List Projection → List Reference → Base → Bool
supports_behind types [] rest references base = mutable_behind types rest references base
supports_behind types (Deref ∷ projections) rest [] base = false
supports_behind types (Deref ∷ projections) rest (reference ∷ references) base =
    supports_behind types projections rest references base
supports_behind types (Field k ∷ projections) rest (reference ∷ references) base = false
supports_behind types (Field k ∷ projections) rest [] Int = false
supports_behind types (Field k ∷ projections) rest [] (Closure closure) = false
supports_behind types (Field k ∷ projections) rest [] (Struct instance) =
    option_map_or (λ (ty : Ty). supports_behind types projections rest ty.references ty.base) (declared_field types instance.name k) false

-- these projections of a place dereference no shared reference; each field has its declared type
abbrev pub supports_from : Mir → Place → List Projection → Bool
supports_from mir prefix rest =
    option_map_or (λ (local : Ty). supports_behind mir.types prefix.projections rest local.references local.base) (slice_get mir.locals prefix.local) false
