-- Supporting prefixes are decided by the declared fields.
use Rattle.std.proofs.Common.{◌≡◌, Bool, false, Option, Some, None, option_and_then, List, [], ◌∷◌, map, slice_get, refl, sym, ◌∙◌}
use Rattle.std.specs.Option.{option_map, option_map_or}
use Rattle.bc_syntax.specs.declared.syntax.Region.{Region}
use Rattle.bc_syntax.specs.declared.syntax.Base.{Base}
use Rattle.bc_syntax.specs.declared.syntax.Base.TheVariants.{Int, Struct, Closure}
use Rattle.bc_syntax.specs.declared.syntax.Ty.{Ty}
use Rattle.bc_syntax.specs.declared.syntax.Place.{Place}
use Rattle.bc_syntax.specs.declared.syntax.Reference.{Reference}
use Rattle.bc_syntax.specs.declared.syntax.Projection.{Projection}
use Rattle.bc_syntax.specs.declared.syntax.Projection.TheVariants.{Deref, Field}
use Rattle.bc_syntax.specs.declared.syntax.Declaration.{Declaration}
use Rattle.bc_shapes.specs.Replaced.{replaced_region, replaced_reference, replaced_base, replaced_ty}
use Rattle.bc_types.specs.Fields.{declared_field}
use Rattle.bc_bodies.specs.Mir.{Mir}
use Rattle.bc_bodies.specs.PlaceTypes.{type_behind, leads_mutable}
use Rattle.bc_points.specs.Supports.{goes_on_mutable, supports_behind, supports_from}
use Rattle.bc_bodies.proofs.Replacing.{mutable_replaced, mutable_tells}

-- the first projections lead to a type from which the rest dereference no shared reference
abbrev leads_behind : List Declaration → List Projection → List Projection → List Reference → Base → Bool
leads_behind types projections rest references base =
    option_map_or (leads_mutable types rest) (type_behind types projections references base) false

leads_replaced : (types : List Declaration) (arguments : List Region) (projections rest : List Projection) (references : List Reference) (base : Base) → leads_behind types projections rest (map (replaced_reference arguments) references) (replaced_base arguments base) ≡ leads_behind types projections rest references base
leads_replaced types arguments [] rest references base = mutable_replaced types arguments rest references base
leads_replaced types arguments (Deref ∷ projections) rest [] base = refl
leads_replaced types arguments (Deref ∷ projections) rest (reference ∷ references) base =
    leads_replaced types arguments projections rest references base
leads_replaced types arguments (Field k ∷ projections) rest (reference ∷ references) base = refl
leads_replaced types arguments (Field k ∷ projections) rest [] Int = refl
leads_replaced types arguments (Field k ∷ projections) rest [] (Closure closure) = refl
leads_replaced types arguments (Field k ∷ projections) rest [] (Struct instance) =
    by (declared_field types instance.name k) (λ ty. leads_replaced types (map (replaced_region arguments) instance.regions) projections rest ty.references ty.base ∙ sym (leads_replaced types instance.regions projections rest ty.references ty.base))
  where
    by : (found : Option Ty) → ((ty : Ty) → leads_behind types projections rest (replaced_ty (map (replaced_region arguments) instance.regions) ty).references (replaced_ty (map (replaced_region arguments) instance.regions) ty).base ≡ leads_behind types projections rest (replaced_ty instance.regions ty).references (replaced_ty instance.regions ty).base)
        → option_map_or (leads_mutable types rest) (option_and_then (λ (ty : Ty). type_behind types projections ty.references ty.base) (option_map (replaced_ty (map (replaced_region arguments) instance.regions)) found)) false
        ≡ option_map_or (leads_mutable types rest) (option_and_then (λ (ty : Ty). type_behind types projections ty.references ty.base) (option_map (replaced_ty instance.regions) found)) false
    by None same = refl
    by (Some ty) same = same ty

supports_tells : (types : List Declaration) (projections rest : List Projection) (references : List Reference) (base : Base) → supports_behind types projections rest references base ≡ leads_behind types projections rest references base
supports_tells types [] rest references base = mutable_tells types rest references base
supports_tells types (Deref ∷ projections) rest [] base = refl
supports_tells types (Deref ∷ projections) rest (reference ∷ references) base = supports_tells types projections rest references base
supports_tells types (Field k ∷ projections) rest (reference ∷ references) base = refl
supports_tells types (Field k ∷ projections) rest [] Int = refl
supports_tells types (Field k ∷ projections) rest [] (Closure closure) = refl
supports_tells types (Field k ∷ projections) rest [] (Struct instance) =
    by (declared_field types instance.name k) (λ ty. supports_tells types projections rest ty.references ty.base ∙ sym (leads_replaced types instance.regions projections rest ty.references ty.base))
  where
    by : (found : Option Ty) → ((ty : Ty) → supports_behind types projections rest ty.references ty.base ≡ leads_behind types projections rest (replaced_ty instance.regions ty).references (replaced_ty instance.regions ty).base)
        → option_map_or (λ (ty : Ty). supports_behind types projections rest ty.references ty.base) found false
        ≡ option_map_or (leads_mutable types rest) (option_and_then (λ (ty : Ty). type_behind types projections ty.references ty.base) (option_map (replaced_ty instance.regions) found)) false
    by None same = refl
    by (Some ty) same = same ty

pub from_tells : (mir : Mir) (prefix : Place) (rest : List Projection) → supports_from mir prefix rest ≡ goes_on_mutable mir prefix rest
from_tells mir prefix rest = by (slice_get mir.locals prefix.local)
  where
    by : (found : Option Ty) → option_map_or (λ (local : Ty). supports_behind mir.types prefix.projections rest local.references local.base) found false
        ≡ option_map_or (leads_mutable mir.types rest) (option_and_then (λ (local : Ty). type_behind mir.types prefix.projections local.references local.base) found) false
    by None = refl
    by (Some local) = supports_tells mir.types prefix.projections rest local.references local.base
