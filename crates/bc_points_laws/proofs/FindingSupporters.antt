-- Supporting prefixes through the fields of structs are found by taking away last projections.
use Rattle.std.proofs.Common.{◌≡◌, ℕ, Bool, true, false, not, ◌&&◌, cond, eqb, Option, Some, None, option_and_then, ◌↔◌, ◌⊎◌, inl, inr, List, [], ◌∷◌, ◌++◌, reverse, slice_get, refl, sym, subst, ap, ◌∙◌}
use Rattle.std.proofs.lemmas.Bool.{eqb-true, eq-eqb, and_from, and_parts, not-true}
use Rattle.std.proofs.lemmas.List.{reverse-append, reverse-reverse}
use Rattle.std.proofs.lemmas.List.Folds.{list_all-append}
use Rattle.std.specs.List.{Contains}
use Rattle.std.specs.Option.{option_map_or, option_to_list}
use Rattle.bc_syntax.specs.declared.syntax.Base.{Base}
use Rattle.bc_syntax.specs.declared.syntax.Base.TheVariants.{Int, Struct, Closure}
use Rattle.bc_syntax.specs.declared.syntax.Ty.{Ty}
use Rattle.bc_syntax.specs.declared.syntax.Place.{Place}
use Rattle.bc_syntax.specs.declared.syntax.Reference.{Reference}
use Rattle.bc_syntax.specs.declared.syntax.Projection.{Projection}
use Rattle.bc_syntax.specs.declared.syntax.Projection.TheVariants.{Deref, Field}
use Rattle.bc_syntax.specs.declared.syntax.Declaration.{Declaration}
use Rattle.bc_shapes.specs.Mutabilities.{is_mutable}
use Rattle.bc_bodies.specs.Places.{are_mutable}
use Rattle.bc_points.specs.Prefixes.{rest_after, rest_of}
use Rattle.bc_types.specs.Fields.{field_type}
use Rattle.bc_bodies.specs.Mir.{Mir}
use Rattle.bc_bodies.specs.PlaceTypes.{type_behind, type_of_place}
use Rattle.bc_points.specs.Supports.{goes_on_mutable, supports}
use Rattle.bc_points_laws.specs.Supporters.{place_of, is_shared, reference_taken, last_taken_of, supporters_from, supporters}
use Rattle.bc_flow.proofs.Membership.{Contains-nil, Contains-head, Contains-cons, Contains-later}
use Rattle.bc_points_laws.proofs.Supporters.{along, leads, leads_more}
use Rattle.bc_points_laws.proofs.Finding.{allowed-some, rest_after-is, rest_after-append, are_mutable-option, goes-on, went-on, map_or-true, and_then-some, same-place}

along_append : (types : List Declaration) (first second : List Projection) (references : List Reference) (base : Base) → type_behind types (first ++ second) references base ≡ option_and_then (along types second) (type_behind types first references base)
along_append types [] second references base = refl
along_append types (Deref ∷ first) second [] base = refl
along_append types (Deref ∷ first) second (reference ∷ references) base = along_append types first second references base
along_append types (Field k ∷ first) second (reference ∷ references) base = refl
along_append types (Field k ∷ first) second [] Int = refl
along_append types (Field k ∷ first) second [] (Closure closure) = refl
along_append types (Field k ∷ first) second [] (Struct instance) =
    by (field_type types instance k) (λ ty. along_append types first second ty.references ty.base)
  where
    by : (found : Option Ty) → ((ty : Ty) → along types (first ++ second) ty ≡ option_and_then (along types second) (along types first ty))
        → option_and_then (λ (ty : Ty). type_behind types (first ++ second) ty.references ty.base) found
        ≡ option_and_then (along types second) (option_and_then (λ (ty : Ty). type_behind types first ty.references ty.base) found)
    by None more = refl
    by (Some ty) more = more ty

found-along : (types : List Declaration) (found : Option Ty) (first second : List Projection) → option_and_then (λ (ty : Ty). along types (first ++ second) ty) found ≡ option_and_then (along types second) (option_and_then (λ (ty : Ty). along types first ty) found)
found-along types None first second = refl
found-along types (Some ty) first second = along_append types first second ty.references ty.base

-- a place has the type of its prefix, followed through what was taken away
behind-type : (mir : Mir) (local : ℕ) (taken before : List Projection) → type_of_place mir (place_of local (taken ++ before)) ≡ option_and_then (along mir.types (reverse taken)) (type_of_place mir (place_of local before))
behind-type mir local taken before =
    ap (λ projections. option_and_then (λ (ty : Ty). along mir.types projections ty) (slice_get mir.locals local)) (reverse-append taken before)
    ∙ found-along mir.types (slice_get mir.locals local) (reverse before) (reverse taken)

-- none of the projections that are taken away, the last first, dereferences a shared reference
abbrev none_shared : Mir → ℕ → List Projection → List Projection → Bool
none_shared mir local [] before = true
none_shared mir local (last ∷ taken) before =
    none_shared mir local taken before && not (is_shared (last_taken_of mir local (last ∷ (taken ++ before))))

none_shared-is : (mir : Mir) (local : ℕ) (taken before : List Projection) (ty : Ty) → type_of_place mir (place_of local before) ≡ Some ty → none_shared mir local taken before ≡ are_mutable (leads mir.types (reverse taken) ty)
none_shared-is mir local [] before ty typed = refl
none_shared-is mir local (last ∷ taken) before ty typed =
    let there : Option Reference = option_and_then (reference_taken last) (along mir.types (reverse taken) ty) in
    let here : last_taken_of mir local (last ∷ (taken ++ before)) ≡ there =
    ap (option_and_then (reference_taken last)) (behind-type mir local taken before ∙ ap (option_and_then (along mir.types (reverse taken))) typed) in
    let split : are_mutable (leads mir.types (reverse (last ∷ taken)) ty) ≡ (are_mutable (leads mir.types (reverse taken) ty) && not (is_shared there)) =
    ap (λ projections. are_mutable (leads mir.types projections ty)) (reverse-append (last ∷ []) taken)
    ∙ ap are_mutable (leads_more mir.types (reverse taken) last ty.references ty.base)
    ∙ list_all-append (λ (r : Reference). is_mutable r.mutability) (leads mir.types (reverse taken) ty) (option_to_list there)
    ∙ ap (λ test. are_mutable (leads mir.types (reverse taken) ty) && test) (are_mutable-option there) in
    ap (λ test. test && not (is_shared (last_taken_of mir local (last ∷ (taken ++ before))))) (none_shared-is mir local taken before ty typed)
    ∙ ap (λ found. are_mutable (leads mir.types (reverse taken) ty) && not (is_shared found)) here
    ∙ sym split

starts : (mir : Mir) (local : ℕ) (before : List Projection) → Contains (supporters_from mir local before) (place_of local before)
starts mir local [] = Contains-head (place_of local []) []
starts mir local (last ∷ before) = Contains-head (place_of local (last ∷ before)) _

-- a prefix is found if what was taken away dereferences no shared reference
found : (mir : Mir) (local : ℕ) (taken before : List Projection) → none_shared mir local taken before ≡ true → Contains (supporters_from mir local (taken ++ before)) (place_of local before)
found mir local [] before none = starts mir local before
found mir local (last ∷ taken) before none =
    let shared : Bool = is_shared (last_taken_of mir local (last ∷ (taken ++ before))) in
    let parts = and_parts (none_shared mir local taken before) (not shared) none in
    Contains-later (place_of local (last ∷ (taken ++ before))) (cond shared [] (supporters_from mir local (taken ++ before))) (place_of local before)
    (goes-on shared (place_of local before) (supporters_from mir local (taken ++ before)) (not-true shared parts.1) (found mir local taken before parts.0))

-- a place that was found, with what was taken away
record IsTaken (mir : Mir) (local : ℕ) (projections : List Projection) (place : Place) : Type 0 where
  taken : List Projection
  before : List Projection
  parts : projections ≡ taken ++ before
  is : place ≡ place_of local before
  none : none_shared mir local taken before ≡ true

taken-more : (mir : Mir) (local : ℕ) (last : Projection) (projections : List Projection) (place : Place) → is_shared (last_taken_of mir local (last ∷ projections)) ≡ false → IsTaken mir local projections place → IsTaken mir local (last ∷ projections) place
taken-more mir local last projections place shared h = record {
  taken = last ∷ h.taken;
  before = h.before;
  parts = ap (λ rest. last ∷ rest) h.parts;
  is = h.is;
  none = and_from (none_shared mir local h.taken h.before) _ h.none (ap not (ap (λ rest. is_shared (last_taken_of mir local (last ∷ rest))) (sym h.parts) ∙ shared));
}

mutual-cases : (mir : Mir) (local : ℕ) (last : Projection) (projections : List Projection) (place : Place) → (Contains (supporters_from mir local projections) place → IsTaken mir local projections place) → (place_of local (last ∷ projections) ≡ place) ⊎ Contains (cond (is_shared (last_taken_of mir local (last ∷ projections))) [] (supporters_from mir local projections)) place → IsTaken mir local (last ∷ projections) place
mutual-cases mir local last projections place rest (inl same) = record { taken = []; before = last ∷ projections; parts = refl; is = sym same; none = refl }
mutual-cases mir local last projections place rest (inr contains) =
    let on = went-on (is_shared (last_taken_of mir local (last ∷ projections))) place (supporters_from mir local projections) contains in
    taken-more mir local last projections place on.0 (rest on.1)

none-left : (mir : Mir) (local : ℕ) (place : Place) → (place_of local [] ≡ place) ⊎ Contains [] place → IsTaken mir local [] place
none-left mir local place (inl same) = record { taken = []; before = []; parts = refl; is = sym same; none = refl }
none-left mir local place (inr contains) = absurd (Contains-nil place contains)

was-found : (mir : Mir) (local : ℕ) (projections : List Projection) (place : Place) → Contains (supporters_from mir local projections) place → IsTaken mir local projections place
was-found mir local [] place contains = none-left mir local place (Contains-cons (place_of local []) [] place contains)
was-found mir local (last ∷ projections) place contains =
    mutual-cases mir local last projections place (was-found mir local projections place)
    (Contains-cons (place_of local (last ∷ projections)) (cond (is_shared (last_taken_of mir local (last ∷ projections))) [] (supporters_from mir local projections)) place contains)

finds : (mir : Mir) (prefix place : Place) → supports mir prefix place ≡ true → Contains (supporters mir place) prefix
finds mir prefix place holds =
    let (rest, left, passes) = map_or-true (goes_on_mutable mir prefix) (rest_of prefix place) holds in
    let (ty, typed, mutable) = map_or-true (λ ty. are_mutable (leads mir.types rest ty)) (type_of_place mir prefix) passes in
    let parts = allowed-some (eqb prefix.local place.local) (rest_after prefix.projections place.projections) rest left in
    let same : place_of place.local (reverse prefix.projections) ≡ prefix = same-place place.local prefix (sym (eqb-true prefix.local place.local parts.0)) in
    let whole : reverse rest ++ reverse prefix.projections ≡ reverse place.projections =
    sym (ap reverse (rest_after-is prefix.projections place.projections rest parts.1) ∙ reverse-append prefix.projections rest) in
    let none : none_shared mir place.local (reverse rest) (reverse prefix.projections) ≡ true =
    none_shared-is mir place.local (reverse rest) (reverse prefix.projections) ty (ap (type_of_place mir) same ∙ typed)
    ∙ ap (λ projections. are_mutable (leads mir.types projections ty)) (reverse-reverse rest) ∙ mutable in
    subst (λ (found : Place). Contains (supporters mir place) found) same
    (subst (λ (projections : List Projection). Contains (supporters_from mir place.local projections) (place_of place.local (reverse prefix.projections))) whole
    (found mir place.local (reverse rest) (reverse prefix.projections) none))

is-supporting : (mir : Mir) (place : Place) (ty : Ty) (taken before : List Projection) → type_of_place mir place ≡ Some ty → reverse place.projections ≡ taken ++ before → none_shared mir place.local taken before ≡ true → supports mir (place_of place.local before) place ≡ true
is-supporting mir place ty taken before typed parts none =
    let turned : place ≡ place_of place.local (taken ++ before) =
    sym (same-place place.local place refl) ∙ ap (place_of place.local) parts in
    let projections : place.projections ≡ reverse before ++ reverse taken = ap (λ (p : Place). p.projections) turned ∙ reverse-append taken before in
    let (inner, at) = and_then-some (along mir.types (reverse taken)) (type_of_place mir (place_of place.local before)) ty (sym (behind-type mir place.local taken before) ∙ ap (type_of_place mir) (sym turned) ∙ typed) in
    let left : rest_of (place_of place.local before) place ≡ Some (reverse taken) =
    ap (λ test. cond test (rest_after (reverse before) place.projections) None) (eq-eqb place.local place.local refl)
    ∙ ap (rest_after (reverse before)) projections ∙ rest_after-append (reverse before) (reverse taken) in
    ap (λ rest. option_map_or (goes_on_mutable mir (place_of place.local before)) rest false) left
    ∙ ap (λ found. option_map_or (λ ty. are_mutable (leads mir.types (reverse taken) ty)) found false) at
    ∙ sym (none_shared-is mir place.local taken before inner at) ∙ none

-- the test accepts exactly the prefixes that are found by taking away last projections
pub supporting-is-found : (mir : Mir) (prefix place : Place) (ty : Ty) → type_of_place mir place ≡ Some ty → (supports mir prefix place ≡ true) ↔ Contains (supporters mir place) prefix
supporting-is-found mir prefix place ty typed = (
  finds mir prefix place,
  λ contains.
      let h = was-found mir place.local (reverse place.projections) prefix contains in
      ap (λ p. supports mir p place) h.is ∙ is-supporting mir place ty h.taken h.before typed h.parts h.none,
)
