-- Replacing regions changes no mutability.
use Rattle.std.proofs.Common.{◌≡◌, true, ◌&&◌, slice_get, Option, Some, None, List, [], ◌∷◌, map, refl, sym, ap, ◌∙◌}
use Rattle.std.specs.Option.{option_map, option_map_or}
use Rattle.bc_syntax.specs.declared.syntax.Region.{Region}
use Rattle.bc_syntax.specs.declared.syntax.Base.{Base}
use Rattle.bc_syntax.specs.declared.syntax.Base.TheVariants.{Int, Struct, Closure}
use Rattle.bc_syntax.specs.declared.syntax.Place.{Place}
use Rattle.bc_syntax.specs.declared.syntax.Ty.{Ty}
use Rattle.bc_syntax.specs.declared.syntax.Reference.{Reference}
use Rattle.bc_syntax.specs.declared.syntax.Projection.{Projection}
use Rattle.bc_syntax.specs.declared.syntax.Projection.TheVariants.{Deref, Field}
use Rattle.bc_syntax.specs.declared.syntax.Declaration.{Declaration}
use Rattle.bc_shapes.specs.Mutabilities.{is_mutable}
use Rattle.bc_bodies.specs.Places.{are_mutable}
use Rattle.bc_bodies.specs.Mir.{Mir}
use Rattle.bc_shapes.specs.Replaced.{replaced_region, replaced_reference, replaced_base, replaced_ty}
use Rattle.bc_types.specs.Fields.{declared_field}
use Rattle.bc_bodies.specs.PlaceTypes.{references_behind, references_of_place, leads_mutable, mutable_behind, mutable_on_way}

pub mutable_replaced : (types : List Declaration) (arguments : List Region) (projections : List Projection) (references : List Reference) (base : Base) → are_mutable (references_behind types projections (map (replaced_reference arguments) references) (replaced_base arguments base)) ≡ are_mutable (references_behind types projections references base)
mutable_replaced types arguments [] references base = refl
mutable_replaced types arguments (Deref ∷ projections) [] base = refl
mutable_replaced types arguments (Deref ∷ projections) (reference ∷ references) base =
    ap (λ b. is_mutable reference.mutability && b) (mutable_replaced types arguments projections references base)
mutable_replaced types arguments (Field k ∷ projections) (reference ∷ references) base = refl
mutable_replaced types arguments (Field k ∷ projections) [] Int = refl
mutable_replaced types arguments (Field k ∷ projections) [] (Closure closure) = refl
mutable_replaced types arguments (Field k ∷ projections) [] (Struct instance) =
    by (declared_field types instance.name k) (λ ty. mutable_replaced types (map (replaced_region arguments) instance.regions) projections ty.references ty.base ∙ sym (mutable_replaced types instance.regions projections ty.references ty.base))
  where
    by : (found : Option Ty) → ((ty : Ty) → leads_mutable types projections (replaced_ty (map (replaced_region arguments) instance.regions) ty) ≡ leads_mutable types projections (replaced_ty instance.regions ty))
        → are_mutable (option_map_or (λ (ty : Ty). references_behind types projections ty.references ty.base) (option_map (replaced_ty (map (replaced_region arguments) instance.regions)) found) [])
        ≡ are_mutable (option_map_or (λ (ty : Ty). references_behind types projections ty.references ty.base) (option_map (replaced_ty instance.regions) found) [])
    by None same = refl
    by (Some ty) same = same ty

-- `mutable_behind` is true exactly if all dereferenced references are mutable
pub mutable_tells : (types : List Declaration) (projections : List Projection) (references : List Reference) (base : Base) → mutable_behind types projections references base ≡ are_mutable (references_behind types projections references base)
mutable_tells types [] references base = refl
mutable_tells types (Deref ∷ projections) [] base = refl
mutable_tells types (Deref ∷ projections) (reference ∷ references) base =
    ap (λ b. is_mutable reference.mutability && b) (mutable_tells types projections references base)
mutable_tells types (Field k ∷ projections) (reference ∷ references) base = refl
mutable_tells types (Field k ∷ projections) [] Int = refl
mutable_tells types (Field k ∷ projections) [] (Closure closure) = refl
mutable_tells types (Field k ∷ projections) [] (Struct instance) =
    by (declared_field types instance.name k) (λ ty. mutable_tells types projections ty.references ty.base ∙ sym (mutable_replaced types instance.regions projections ty.references ty.base))
  where
    by : (found : Option Ty) → ((ty : Ty) → mutable_behind types projections ty.references ty.base ≡ leads_mutable types projections (replaced_ty instance.regions ty))
        → option_map_or (λ (ty : Ty). mutable_behind types projections ty.references ty.base) found true
        ≡ are_mutable (option_map_or (λ (ty : Ty). references_behind types projections ty.references ty.base) (option_map (replaced_ty instance.regions) found) [])
    by None same = refl
    by (Some ty) same = same ty

pub on_way_tells : (mir : Mir) (place : Place) → mutable_on_way mir place ≡ are_mutable (references_of_place mir place)
on_way_tells mir place = by (slice_get mir.locals place.local)
  where
    by : (found : Option Ty) → option_map_or (λ (local : Ty). mutable_behind mir.types place.projections local.references local.base) found true
        ≡ are_mutable (option_map_or (λ (local : Ty). references_behind mir.types place.projections local.references local.base) found [])
    by None = refl
    by (Some local) = mutable_tells mir.types place.projections local.references local.base
