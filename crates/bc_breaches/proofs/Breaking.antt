-- A declaration without a breach is good, and a breach is of a rule that the declaration breaks.
use Rattle.std.proofs.Common.{◌≡◌, ℕ, zero, suc, ◌+◌, Bool, true, false, ◌&&◌, not, cond, Option, Some, None, List, [], ◌∷◌, ◌++◌, length, refl, sym, ap, ◌∙◌, subst, arith}
use Rattle.std.specs.Prelude.{is_some, slice_get}
use Rattle.std.specs.List.{list_all}
use Rattle.std.proofs.lemmas.Option.{same_Some}
use Rattle.bc_syntax.specs.declared.syntax.Region.{Region}
use Rattle.bc_syntax.specs.declared.syntax.Ty.{Ty}
use Rattle.bc_syntax.specs.declared.syntax.Variance.{Variance}
use Rattle.bc_syntax.specs.declared.syntax.StructDeclaration.{StructDeclaration}
use Rattle.bc_syntax.specs.declared.syntax.ExternDeclaration.{ExternDeclaration}
use Rattle.bc_syntax.specs.declared.syntax.Declaration.{Declaration}
use Rattle.bc_syntax.specs.declared.syntax.Declaration.TheVariants.{Struct, Extern}
use Rattle.bc_types.specs.Declarations.{Position, struct_among, extern_among, has_declared_base, stands_well, positions, is_good_field, is_good}
use Rattle.bc_breaches.specs.declared.declaration.DeclarationBreach.{DeclarationBreach}
use Rattle.bc_breaches.specs.declared.declaration.DeclarationBreach.TheVariants.{Name, Mention, Variance as Invariance}
use Rattle.bc_breaches.proofs.Firsts.{clear, clear_first}
use Rattle.bc_breaches.specs.Firsts.{first_of}
use Rattle.bc_breaches.specs.Declarations.{misplaced, variance_breach, field_breach, fields_breach, types_breach, declaration_breach, MentionsUndeclared, IsMisplaced, Breaks}

-- ---- no breach

clear_positions : (variances : List Variance) (positions : List Position) → not (is_some (misplaced variances positions)) ≡ list_all (stands_well variances) positions
clear_positions variances [] = refl
clear_positions variances (position ∷ positions) =
    elim (stands_well variances position) as (λ b. not (is_some (cond b (misplaced variances positions) (Some position.region))) ≡ (b && list_all (stands_well variances) positions)) [
      | true ↦ clear_positions variances positions
      | false ↦ refl
    ]

clear_variance : (field : ℕ) (region : Option Region) → clear (variance_breach field region) ≡ not (is_some region)
clear_variance field None = refl
clear_variance field (Some region) = refl

clear_field : (earlier : List Declaration) (variances : List Variance) (field : ℕ) (ty : Ty) → clear (field_breach earlier variances field ty) ≡ is_good_field earlier variances ty
clear_field earlier variances field ty =
    let region = misplaced variances (positions earlier ty) in
    elim (has_declared_base earlier ty) as (λ b. clear (cond b (variance_breach field region) (Some (Mention field))) ≡ (b && list_all (stands_well variances) (positions earlier ty))) [
      | true ↦ clear_variance field region ∙ clear_positions variances (positions earlier ty)
      | false ↦ refl
    ]

clear_fields : (earlier : List Declaration) (variances : List Variance) (field : ℕ) (tys : List Ty) → clear (fields_breach earlier variances field tys) ≡ list_all (is_good_field earlier variances) tys
clear_fields earlier variances field [] = refl
clear_fields earlier variances field (ty ∷ tys) =
    clear_first (field_breach earlier variances field ty) (fields_breach earlier variances (field + 1) tys)
    ∙ ap (λ b. b && clear (fields_breach earlier variances (field + 1) tys)) (clear_field earlier variances field ty)
    ∙ ap (λ b. is_good_field earlier variances ty && b) (clear_fields earlier variances (field + 1) tys)

clear_types : (earlier : List Declaration) (number : ℕ) (tys : List Ty) → clear (types_breach earlier number tys) ≡ list_all (has_declared_base earlier) tys
clear_types earlier number [] = refl
clear_types earlier number (ty ∷ tys) =
    elim (has_declared_base earlier ty) as (λ b. clear (cond b (types_breach earlier (number + 1) tys) (Some (Mention number))) ≡ (b && list_all (has_declared_base earlier) tys)) [
      | true ↦ clear_types earlier (number + 1) tys
      | false ↦ refl
    ]

and_true : (b : Bool) → (b && true) ≡ b
and_true true = refl
and_true false = refl

clear_signature : (earlier : List Declaration) (parameters : List Ty) (returned : Ty) →
    clear (first_of (types_breach earlier 0 parameters) (types_breach earlier (length parameters) (returned ∷ []))) ≡ (list_all (has_declared_base earlier) parameters && has_declared_base earlier returned)
clear_signature earlier parameters returned =
    clear_first (types_breach earlier 0 parameters) (types_breach earlier (length parameters) (returned ∷ []))
    ∙ ap (λ b. b && clear (types_breach earlier (length parameters) (returned ∷ []))) (clear_types earlier 0 parameters)
    ∙ ap (λ b. list_all (has_declared_base earlier) parameters && b) (clear_types earlier (length parameters) (returned ∷ []) ∙ and_true (has_declared_base earlier returned))

-- a declaration is good exactly if it has no breach
pub clear_declaration : (earlier : List Declaration) (d : Declaration) → clear (declaration_breach earlier d) ≡ is_good earlier d
clear_declaration earlier (Struct d) =
    elim (is_some (struct_among earlier d.name)) as (λ b. clear (cond b (Some Name) (fields_breach earlier d.variances 0 d.fields)) ≡ (not b && list_all (is_good_field earlier d.variances) d.fields)) [
      | true ↦ refl
      | false ↦ clear_fields earlier d.variances 0 d.fields
    ]
clear_declaration earlier (Extern d) =
    let mentions = first_of (types_breach earlier 0 d.signature.parameters) (types_breach earlier (length d.signature.parameters) (d.signature.result ∷ [])) in
    elim (is_some (extern_among earlier d.name)) as (λ b. clear (cond b (Some Name) mentions) ≡ (not b && (list_all (has_declared_base earlier) d.signature.parameters && has_declared_base earlier d.signature.result))) [
      | true ↦ refl
      | false ↦ clear_signature earlier d.signature.parameters d.signature.result
    ]

-- ---- a breach

misplaced_at : (variances : List Variance) (positions : List Position) (region : Region) → misplaced variances positions ≡ Some region →
    (n : ℕ) × (position : Position) × (slice_get positions n ≡ Some position) × (position.region ≡ region) × (stands_well variances position ≡ false)
misplaced_at variances [] region h = cc
misplaced_at variances (position ∷ positions) region h =
    elim (stands_well variances position) as (λ b. stands_well variances position ≡ b → cond b (misplaced variances positions) (Some position.region) ≡ Some region →
    (n : ℕ) × (p : Position) × (slice_get (position ∷ positions) n ≡ Some p) × (p.region ≡ region) × (stands_well variances p ≡ false)) [
      | true ↦ λ stands later. let rest = misplaced_at variances positions region later in (suc rest.0, rest.1, rest.2, rest.3, rest.4)
      | false ↦ λ fails here. (0, position, refl, same_Some position.region region here, fails)
    ] refl h

-- what a breach of a field says
abbrev FieldBreaks : List Declaration → List Variance → List Ty → DeclarationBreach → Type 0
FieldBreaks earlier variances tys Name = ⊥
FieldBreaks earlier variances tys (Mention number) = MentionsUndeclared earlier tys number
FieldBreaks earlier variances tys (Invariance number region) = IsMisplaced earlier variances tys number region

field_breaks : (earlier : List Declaration) (variances : List Variance) (tys : List Ty) (field : ℕ) (ty : Ty) → slice_get tys field ≡ Some ty → (breach : DeclarationBreach) →
    field_breach earlier variances field ty ≡ Some breach → FieldBreaks earlier variances tys breach
field_breaks earlier variances tys field ty is breach h =
    let region = misplaced variances (positions earlier ty) in
    elim (has_declared_base earlier ty) as (λ b. has_declared_base earlier ty ≡ b → cond b (variance_breach field region) (Some (Mention field)) ≡ Some breach → FieldBreaks earlier variances tys breach) [
      | true ↦ λ declared later.
          elim region as (λ r. region ≡ r → variance_breach field r ≡ Some breach → FieldBreaks earlier variances tys breach) [
            | None ↦ λ none nothing. cc
            | Some r ↦ λ found here.
                let at = misplaced_at variances (positions earlier ty) r found in
                subst (FieldBreaks earlier variances tys) (same_Some (Invariance field r) breach here)
                (record { ty = ty; number = at.0; position = at.1; is_field = is; is_position = at.2; is_region = at.3; stands_badly = at.4 })
          ] refl later
      | false ↦ λ undeclared here. subst (FieldBreaks earlier variances tys) (same_Some (Mention field) breach here) (record { ty = ty; is_type = is; undeclared = undeclared })
    ] refl h

field_at : (earlier : List Declaration) (variances : List Variance) (field : ℕ) (tys : List Ty) (breach : DeclarationBreach) → fields_breach earlier variances field tys ≡ Some breach →
    (n : ℕ) × (ty : Ty) × (slice_get tys n ≡ Some ty) × (field_breach earlier variances (field + n) ty ≡ Some breach)
field_at earlier variances field [] breach h = cc
field_at earlier variances field (ty ∷ tys) breach h =
    elim (field_breach earlier variances field ty) as (λ o. field_breach earlier variances field ty ≡ o → first_of o (fields_breach earlier variances (field + 1) tys) ≡ Some breach →
    (n : ℕ) × (t : Ty) × (slice_get (ty ∷ tys) n ≡ Some t) × (field_breach earlier variances (field + n) t ≡ Some breach)) [
      | None ↦ λ none later.
          let rest = field_at earlier variances (field + 1) tys breach later in
          let number : field + 1 + rest.0 ≡ field + suc rest.0 = omega arith in
          (suc rest.0, rest.1, rest.2, subst (λ k. field_breach earlier variances k rest.1 ≡ Some breach) number rest.3)
      | Some first ↦ λ found here.
          let number : field ≡ field + 0 = omega arith in
          (0, ty, refl, subst (λ k. field_breach earlier variances k ty ≡ Some breach) number (found ∙ here))
    ] refl h

type_at : (earlier : List Declaration) (number : ℕ) (tys : List Ty) (breach : DeclarationBreach) → types_breach earlier number tys ≡ Some breach →
    (n : ℕ) × (ty : Ty) × (slice_get tys n ≡ Some ty) × (has_declared_base earlier ty ≡ false) × (Mention (number + n) ≡ breach)
type_at earlier number [] breach h = cc
type_at earlier number (ty ∷ tys) breach h =
    elim (has_declared_base earlier ty) as (λ b. has_declared_base earlier ty ≡ b → cond b (types_breach earlier (number + 1) tys) (Some (Mention number)) ≡ Some breach →
    (n : ℕ) × (t : Ty) × (slice_get (ty ∷ tys) n ≡ Some t) × (has_declared_base earlier t ≡ false) × (Mention (number + n) ≡ breach)) [
      | true ↦ λ declared later.
          let rest = type_at earlier (number + 1) tys breach later in
          let same : number + 1 + rest.0 ≡ number + suc rest.0 = omega arith in
          (suc rest.0, rest.1, rest.2, rest.3, subst (λ k. Mention k ≡ breach) same rest.4)
      | false ↦ λ undeclared here.
          let same : number ≡ number + 0 = omega arith in
          (0, ty, refl, undeclared, subst (λ k. Mention k ≡ breach) same (same_Some (Mention number) breach here))
    ] refl h

front_at : {X : Type 0} (xs ys : List X) (n : ℕ) (x : X) → slice_get xs n ≡ Some x → slice_get (xs ++ ys) n ≡ Some x
front_at [] ys n x h = cc
front_at (first ∷ xs) ys zero x h = h
front_at (first ∷ xs) ys (suc n) x h = front_at xs ys n x h

back_at : {X : Type 0} (xs ys : List X) (n : ℕ) → slice_get (xs ++ ys) (length xs + n) ≡ slice_get ys n
back_at [] ys n = let same : 0 + n ≡ n = omega arith in ap (slice_get ys) same
back_at (x ∷ xs) ys n = let same : suc (length xs) + n ≡ suc (length xs + n) = omega arith in ap (slice_get (x ∷ (xs ++ ys))) same ∙ back_at xs ys n

signature_breaks : (earlier : List Declaration) (d : ExternDeclaration) (breach : DeclarationBreach) →
    first_of (types_breach earlier 0 d.signature.parameters) (types_breach earlier (length d.signature.parameters) (d.signature.result ∷ [])) ≡ Some breach → Breaks earlier (Extern d) breach
signature_breaks earlier d breach h =
    let parameters = d.signature.parameters in
    let returned = d.signature.result ∷ [] in
    elim (types_breach earlier 0 parameters) as (λ o. types_breach earlier 0 parameters ≡ o → first_of o (types_breach earlier (length parameters) returned) ≡ Some breach → Breaks earlier (Extern d) breach) [
      | None ↦ λ none later.
          let at = type_at earlier (length parameters) returned breach later in
          subst (Breaks earlier (Extern d)) at.4 (record { ty = at.1; is_type = back_at parameters returned at.0 ∙ at.2; undeclared = at.3 })
      | Some first ↦ λ found here.
          let at = type_at earlier 0 parameters breach (found ∙ here) in
          let same : 0 + at.0 ≡ at.0 = omega arith in
          subst (Breaks earlier (Extern d)) (sym (ap (λ k. Mention k) same) ∙ at.4) (record { ty = at.1; is_type = front_at parameters returned at.0 at.1 at.2; undeclared = at.3 })
    ] refl h

in_struct : (earlier : List Declaration) (d : StructDeclaration) (breach : DeclarationBreach) → FieldBreaks earlier d.variances d.fields breach → Breaks earlier (Struct d) breach
in_struct earlier d Name h = absurd h
in_struct earlier d (Mention number) h = h
in_struct earlier d (Invariance field region) h = h

-- the breach that is found is one
pub breaks : (earlier : List Declaration) (d : Declaration) (breach : DeclarationBreach) → declaration_breach earlier d ≡ Some breach → Breaks earlier d breach
breaks earlier (Struct d) breach h =
    let named = is_some (struct_among earlier d.name) in
    elim named as (λ b. named ≡ b → cond b (Some Name) (fields_breach earlier d.variances 0 d.fields) ≡ Some breach → Breaks earlier (Struct d) breach) [
      | true ↦ λ has here. subst (Breaks earlier (Struct d)) (same_Some Name breach here) has
      | false ↦ λ none later.
          let at = field_at earlier d.variances 0 d.fields breach later in
          let same : 0 + at.0 ≡ at.0 = omega arith in
          in_struct earlier d breach (field_breaks earlier d.variances d.fields at.0 at.1 at.2 breach (subst (λ k. field_breach earlier d.variances k at.1 ≡ Some breach) same at.3))
    ] refl h
breaks earlier (Extern d) breach h =
    let named = is_some (extern_among earlier d.name) in
    let mentions = first_of (types_breach earlier 0 d.signature.parameters) (types_breach earlier (length d.signature.parameters) (d.signature.result ∷ [])) in
    elim named as (λ b. named ≡ b → cond b (Some Name) mentions ≡ Some breach → Breaks earlier (Extern d) breach) [
      | true ↦ λ has here. subst (Breaks earlier (Extern d)) (same_Some Name breach here) has
      | false ↦ λ none later. signature_breaks earlier d breach later
    ] refl h
