-- The references that supporting prefixes dereference, through the fields of structs.
use Rattle.std.proofs.Common.{◌≡◌, ℕ, Bool, true, false, not, cond, Option, Some, None, option_and_then, List, [], ◌∷◌, ◌++◌, reverse, slice_get, refl, sym, ap, ◌∙◌}
use Rattle.std.proofs.lemmas.List.{append-nil, reverse-append, reverse-reverse}
use Rattle.std.specs.List.{flat_map}
use Rattle.std.specs.Option.{option_map_or, option_to_list}
use Rattle.bc_syntax.specs.declared.syntax.Base.{Base}
use Rattle.bc_syntax.specs.declared.syntax.Base.TheVariants.{Int, Struct, Closure}
use Rattle.bc_syntax.specs.declared.syntax.Ty.{Ty}
use Rattle.bc_syntax.specs.declared.syntax.Place.{Place}
use Rattle.bc_syntax.specs.declared.syntax.Reference.{Reference}
use Rattle.bc_syntax.specs.declared.syntax.Projection.{Projection}
use Rattle.bc_syntax.specs.declared.syntax.Projection.TheVariants.{Deref, Field}
use Rattle.bc_syntax.specs.declared.syntax.Declaration.{Declaration}
use Rattle.bc_shapes.specs.Mutabilities.{is_mutable}
use Rattle.bc_points.specs.Prefixes.{from_last_shared}
use Rattle.bc_types.specs.Fields.{field_type}
use Rattle.bc_bodies.specs.Mir.{Mir}
use Rattle.bc_bodies.specs.PlaceTypes.{type_behind, references_behind, references_of_place}
use Rattle.bc_points_laws.specs.Supporters.{place_of, is_shared, reference_taken, last_taken_of, last_taken, supporters_from}
use Rattle.bc_points_laws.proofs.Supported.{from_last_shared-more}

abbrev pub along : List Declaration → List Projection → Ty → Option Ty
along types projections ty = type_behind types projections ty.references ty.base

abbrev pub leads : List Declaration → List Projection → Ty → List Reference
leads types projections ty = references_behind types projections ty.references ty.base

-- one more projection dereferences one more reference, or none
pub leads_more : (types : List Declaration) (projections : List Projection) (last : Projection) (references : List Reference) (base : Base) → references_behind types (projections ++ last ∷ []) references base ≡ references_behind types projections references base ++ option_to_list (option_and_then (reference_taken last) (type_behind types projections references base))
leads_more types [] Deref [] base = refl
leads_more types [] Deref (reference ∷ references) base = refl
leads_more types [] (Field k) (reference ∷ references) base = refl
leads_more types [] (Field k) [] Int = refl
leads_more types [] (Field k) [] (Closure closure) = refl
leads_more types [] (Field k) [] (Struct instance) = by (field_type types instance k)
  where
    by : (found : Option Ty) → option_map_or (λ (ty : Ty). references_behind types [] ty.references ty.base) found [] ≡ []
    by None = refl
    by (Some ty) = refl
leads_more types (Deref ∷ projections) last [] base = refl
leads_more types (Deref ∷ projections) last (reference ∷ references) base =
    ap (λ rest. reference ∷ rest) (leads_more types projections last references base)
leads_more types (Field k ∷ projections) last (reference ∷ references) base = refl
leads_more types (Field k ∷ projections) last [] Int = refl
leads_more types (Field k ∷ projections) last [] (Closure closure) = refl
leads_more types (Field k ∷ projections) last [] (Struct instance) =
    by (field_type types instance k) (λ ty. leads_more types projections last ty.references ty.base)
  where
    by : (found : Option Ty) → ((ty : Ty) → leads types (projections ++ last ∷ []) ty ≡ leads types projections ty ++ option_to_list (option_and_then (reference_taken last) (along types projections ty)))
        → option_map_or (λ (ty : Ty). references_behind types (projections ++ last ∷ []) ty.references ty.base) found []
        ≡ option_map_or (λ (ty : Ty). references_behind types projections ty.references ty.base) found [] ++ option_to_list (option_and_then (reference_taken last) (option_and_then (λ (ty : Ty). type_behind types projections ty.references ty.base) found))
    by None more = refl
    by (Some ty) more = more ty

found-more : (types : List Declaration) (found : Option Ty) (last : Projection) (before : List Projection) → option_map_or (λ (ty : Ty). leads types (reverse before ++ last ∷ []) ty) found [] ≡ option_map_or (λ (ty : Ty). leads types (reverse before) ty) found [] ++ option_to_list (option_and_then (reference_taken last) (option_and_then (λ (ty : Ty). along types (reverse before) ty) found))
found-more types None last before = refl
found-more types (Some ty) last before = leads_more types (reverse before) last ty.references ty.base

dereferenced-more : (mir : Mir) (local : ℕ) (last : Projection) (before : List Projection) → references_of_place mir (place_of local (last ∷ before)) ≡ references_of_place mir (place_of local before) ++ option_to_list (last_taken_of mir local (last ∷ before))
dereferenced-more mir local last before =
    ap (λ projections. option_map_or (λ (ty : Ty). leads mir.types projections ty) (slice_get mir.locals local) []) (reverse-append (last ∷ []) before)
    ∙ found-more mir.types (slice_get mir.locals local) last before

abbrev taken_by : Mir → List Place → List Reference
taken_by mir places = flat_map (λ place. option_to_list (last_taken mir place)) places

dereferences-cond : (mir : Mir) (mutable : Bool) (reference : Reference) (places : List Place) (references : List Reference) → reverse (taken_by mir places) ≡ references → reverse (reference ∷ taken_by mir (cond (not mutable) [] places)) ≡ cond mutable (references ++ reference ∷ []) (reference ∷ [])
dereferences-cond mir true reference places references same = reverse-append (reference ∷ []) (taken_by mir places) ∙ ap (λ rest. rest ++ reference ∷ []) same
dereferences-cond mir false reference places references same = refl

dereferences-more : (mir : Mir) (found : Option Reference) (places : List Place) (references : List Reference) → reverse (taken_by mir places) ≡ from_last_shared references → reverse (option_to_list found ++ taken_by mir (cond (is_shared found) [] places)) ≡ from_last_shared (references ++ option_to_list found)
dereferences-more mir None places references same = same ∙ sym (ap from_last_shared (append-nil references))
dereferences-more mir (Some reference) places references same =
    dereferences-cond mir (is_mutable reference.mutability) reference places (from_last_shared references) same ∙ sym (from_last_shared-more references reference)

nothing-found : (types : List Declaration) (found : Option Ty) → [] ≡ option_map_or (λ (ty : Ty). leads types [] ty) found []
nothing-found types None = refl
nothing-found types (Some ty) = refl

dereferences-supporting : (mir : Mir) (local : ℕ) (last_first : List Projection) → reverse (taken_by mir (supporters_from mir local last_first)) ≡ from_last_shared (references_of_place mir (place_of local last_first))
dereferences-supporting mir local [] = ap from_last_shared (nothing-found mir.types (slice_get mir.locals local))
dereferences-supporting mir local (last ∷ before) =
    let found : Option Reference = last_taken_of mir local (last ∷ before) in
    ap (λ projections. reverse (option_to_list (last_taken_of mir local projections) ++ taken_by mir (cond (is_shared found) [] (supporters_from mir local before)))) (reverse-reverse (last ∷ before))
    ∙ dereferences-more mir found (supporters_from mir local before) (references_of_place mir (place_of local before)) (dereferences-supporting mir local before)
    ∙ sym (ap from_last_shared (dereferenced-more mir local last before))

-- the references that supporting prefixes dereference
pub supporting-references : (mir : Mir) (place : Place) → reverse (taken_by mir (supporters_from mir place.local (reverse place.projections))) ≡ from_last_shared (references_of_place mir place)
supporting-references mir place =
    dereferences-supporting mir place.local (reverse place.projections)
    ∙ ap (λ projections. from_last_shared (references_of_place mir (record { local = place.local; projections = projections }))) (reverse-reverse place.projections)
