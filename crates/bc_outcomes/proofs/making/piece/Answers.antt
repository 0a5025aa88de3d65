use Rattle.std.proofs.Common.{◌≡◌, ℕ, List, [], ◌∷◌, length, suc, refl, sym, ap, ◌∙◌, subst, None}
use Rattle.std.specs.Prelude.{map}
use Rattle.bc_syntax.specs.declared.syntax.Declaration.{Declaration}
use Rattle.bc_syntax.specs.declared.syntax.Body.{Body}
use Rattle.bc_syntax.specs.Children.{children_of}
use Rattle.bc_cons.specs.declared.requirements.Requirements.{Requirements}
use Rattle.bc_cons.specs.Requirements.{AreOfChildren}
use Rattle.bc_bodies.specs.declared.children.Child.{Child}
use Rattle.bc_bodies.specs.Mir.{Mir, mir_of}
use Rattle.bc_mir.specs.Typing.{misfit}
use Rattle.bc_prov.specs.Pieces.{IsFitted, IsFoundFrom}
use Rattle.bc_outcomes.specs.Reported.{kid_header, kid_requirements}
use Rattle.bc_prov.specs.State.{number_of_child}
use Rattle.bc_outcomes.proofs.making.piece.Goals as goal

numbers_mapped : (kids : List (Child × Requirements)) → map number_of_child (map kid_header kids) ≡ map (λ (kid : Child × Requirements). number_of_child kid.0) kids
numbers_mapped [] = refl
numbers_mapped (kid ∷ kids) = ap (λ (ns : List ℕ). kid.0.number ∷ ns) (numbers_mapped kids)

same_length : (kids : List (Child × Requirements)) → length (map kid_header kids) ≡ length (map (λ (kid : Child × Requirements). kid.1) kids)
same_length [] = refl
same_length (kid ∷ kids) = ap suc (same_length kids)

-- what is numbered for the children is what was passed for them
all_numbered : (taken : List (ℕ × Requirements)) (kids : List (Child × Requirements)) → map (λ (k : ℕ × Requirements). k.0) taken ≡ map number_of_child (map kid_header kids)
    → map (λ (k : ℕ × Requirements). k.1) taken ≡ map (λ (kid : Child × Requirements). kid.1) kids → taken ≡ map kid_requirements kids
all_numbered [] [] e f = refl
all_numbered [] (kid ∷ kids) e f = absurd (cc)
all_numbered (k ∷ ks) [] e f = absurd (cc)
all_numbered (k ∷ ks) (kid ∷ kids) e f =
    let number : k.0 ≡ kid.0.number = cc in
    let required : k.1 ≡ kid.1 = cc in
    let numbers : map (λ (k : ℕ × Requirements). k.0) ks ≡ map number_of_child (map kid_header kids) = cc in
    let more : map (λ (k : ℕ × Requirements). k.1) ks ≡ map (λ (kid : Child × Requirements). kid.1) kids = cc in
    λ i. (number i, required i) ∷ all_numbered ks kids numbers more i

fitted_of : (types : List Declaration) (unit : Body) (children : List Child) → map number_of_child children ≡ children_of unit → misfit (mir_of types children unit) ≡ None → IsFitted types unit (mir_of types children unit)
fitted_of types unit children numbers fits = record { over = refl; numbered = numbers; fits = fits }

pub typed_over-requires-clause-children : goal.typed_over-requires-clause-children
typed_over-requires-clause-children g c = ap (map number_of_child) (c.deref.ensures.value ∙ c.in_ok-headers.ensures.headers) ∙ numbers_mapped c.args.kids.now ∙ c.requires.children

pub piece_over-requires-clause-fitted : goal.piece_over-requires-clause-fitted
piece_over-requires-clause-fitted g c =
    let numbers : map number_of_child c.deref.result.now ≡ children_of c.args.unit.now = ap (map number_of_child) (c.deref.ensures.value ∙ c.in_ok-headers.ensures.headers) ∙ numbers_mapped c.args.kids.now ∙ c.requires.children in
    subst (IsFitted c.args.types.now c.args.unit.now) (sym c.in_ok-typed.ensures.ok) (fitted_of c.args.types.now c.args.unit.now c.deref.result.now numbers c.in_ok-typed.ensures.fits)

pub piece_over-requires-clause-kids : goal.piece_over-requires-clause-kids
piece_over-requires-clause-kids g c =
    let children : c.in_ok-typed.typed.children ≡ map kid_header c.args.kids.now = ap (λ (m : Mir). m.children) c.in_ok-typed.ensures.ok ∙ c.deref.ensures.value ∙ c.in_ok-headers.ensures.headers in
    let taken = all_numbered c.in_ok-kids.kids.items c.args.kids.now (c.in_ok-kids.ensures.numbers ∙ ap (map number_of_child) (c.children.ensures ∙ ap (λ (m : Mir). m.children) c.get.ensures ∙ children)) (c.in_ok-kids.ensures.requirements ∙ c.in_ok-headers.ensures.requirements) in
    subst (λ (p : List Child × List (ℕ × Requirements)). AreOfChildren p.0 p.1) (λ i. (sym children i, sym taken i)) c.requires.external

pub returns-clause-from : goal.returns-clause-from
returns-clause-from g c =
    let heads = c.deref.ensures.value ∙ c.in_ok-headers.ensures.headers in
    let children : c.in_ok-typed.typed.children ≡ map kid_header c.args.kids.now = ap (λ (m : Mir). m.children) c.in_ok-typed.ensures.ok ∙ heads in
    let taken = all_numbered c.in_ok-kids.kids.items c.args.kids.now (c.in_ok-kids.ensures.numbers ∙ ap (map number_of_child) (c.children.ensures ∙ ap (λ (m : Mir). m.children) c.get.ensures ∙ children)) (c.in_ok-kids.ensures.requirements ∙ c.in_ok-headers.ensures.requirements) in
    let typed : c.in_ok-typed.typed ≡ mir_of c.args.types.now (map kid_header c.args.kids.now) c.args.unit.now = c.in_ok-typed.ensures.ok ∙ (λ i. mir_of c.args.types.now (heads i) c.args.unit.now) in
    subst (λ (p : Mir × List (ℕ × Requirements)). IsFoundFrom c.args.types.now c.args.unit.now p.0 p.1 c.in_ok-piece.piece) (λ i. (typed i, taken i)) c.in_ok-piece.ensures
