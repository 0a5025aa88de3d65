-- A name has at most one verdict and one outcome.
use Rattle.std.proofs.Common.{◌≡◌, ℕ, zero, suc, ◌+◌, ◌<◌, Bool, true, false, List, [], ◌∷◌, ◌++◌, refl, sym, ap, ◌∙◌, subst, arith, Option, Some, None}
use Rattle.std.specs.List.{AllZip}
use Rattle.bc_syntax.specs.declared.syntax.Body.{Body}
use Rattle.bc_syntax.specs.declared.syntax.Region.{Region}
use Rattle.bc_syntax.specs.Children.{children_of}
use Rattle.bc_names.specs.Names.{NameParts}
use Rattle.bc_types.specs.Declarations.{first_bad}
use Rattle.bc_bodies.specs.Mir.{Mir}
use Rattle.bc_live.specs.Live.{IsLive}
use Rattle.bc_cons.specs.declared.requirements.Requirements.{Requirements}
use Rattle.bc_cons.specs.Constraints.{constraints_of}
use Rattle.bc_cons.specs.Starts.{starts_with}
use Rattle.bc_solve.specs.Values.{IsInValue, Tells}
use Rattle.bc_solve.specs.Chains.{ExplainsOver}
use Rattle.bc_solve.proofs.Shortest.{explained_once}
use Rattle.bc_loans.specs.Scope.{IsInScope}
use Rattle.bc_judge.specs.declared.verdict.Verdict.{Verdict}
use Rattle.bc_judge.specs.Errors.{AreErrors, AreRequirements}
use Rattle.bc_judge.proofs.Inside.{scopes_within}
use Rattle.bc_judge.proofs.Once.{errors_once, requirements_once}
use Rattle.bc_prov.specs.declared.outcome.BodyErrors.{BodyErrors}
use Rattle.bc_prov.specs.declared.outcome.Outcome.{Outcome}
use Rattle.bc_prov.specs.declared.outcome.Outcome.TheVariants.{Report}
use Rattle.bc_prov.specs.State.{State, child, levels_from, mir_at}
use Rattle.bc_prov.specs.Verdicts.{IsVerdictOf, IsVerdictOver, IsVerdictWithin, IsVerdictAt, requirements_by}
use Rattle.bc_prov.specs.Outcome.{IsReported, IsOutcomeAfter, IsOutcomeOf, IsOutcomeBehind, IsOutcomeIn, fault_at, units_at}

-- two tests that decide the same fact are equal
both_ways : (s t : Bool) → (s ≡ true → t ≡ true) → (t ≡ true → s ≡ true) → s ≡ t
both_ways true t f g = sym (f refl)
both_ways false true f g = g refl
both_ways false false f g = refl

same_test : (Fact : ℕ → ℕ → Type 0) (a b : ℕ → ℕ → Bool) → Tells a Fact → Tells b Fact → a ≡ b
same_test Fact a b ta tb = λ i x y. both_ways (a x y) (b x y) (λ e. (tb x y).1 ((ta x y).0 e)) (λ e. (ta x y).1 ((tb x y).0 e)) i

one_verdict : (mir : Mir) (kids : List (ℕ × Requirements)) (v w : Verdict) → IsVerdictOf mir kids v → IsVerdictOf mir kids w → v ≡ w
one_verdict mir kids v w a b =
    let live = same_test (IsLive mir) a.live b.live a.tells_live b.tells_live in
    let value = same_test (IsInValue (starts_with mir a.live) (constraints_of mir kids)) a.value b.value a.tells_value
    (subst (λ (l : ℕ → ℕ → Bool). Tells b.value (IsInValue (starts_with mir l) (constraints_of mir kids))) (sym live) b.tells_value) in
    let scope = same_test (λ point loan. IsInScope mir a.value loan point) a.in_scope b.in_scope a.tells_scope
    (subst (λ (t : ℕ → ℕ → Bool). Tells b.in_scope (λ point loan. IsInScope mir t loan point)) (sym value) b.tells_scope) in
    let Wanted : (ℕ → ℕ → Bool) → ℕ → ℕ → List Region → Type 0 = λ l. ExplainsOver mir.universals (starts_with mir l) (constraints_of mir kids) in
    let errors : v.errors ≡ w.errors =
    errors_once mir (Wanted a.live) a.in_scope a.value v.errors w.errors (scopes_within mir a.value a.in_scope a.tells_scope)
    (explained_once mir.universals (starts_with mir a.live) (constraints_of mir kids)) a.errors
    (subst (λ (p : (ℕ → ℕ → Bool) × ((ℕ → ℕ → Bool) × (ℕ → ℕ → Bool))). AreErrors mir (Wanted p.0) p.1.0 p.1.1 w.errors) (λ i. (sym live i, (sym scope i, sym value i))) b.errors) in
    let pairs : v.requirements.pairs ≡ w.requirements.pairs =
    requirements_once mir a.value v.requirements w.requirements a.requirements (subst (λ (t : ℕ → ℕ → Bool). AreRequirements mir t w.requirements) (sym value) b.requirements) in
    λ i. record { errors = errors i; requirements = record { pairs = pairs i } }

one_list : {A B : Type 0} (R : A → B → Type 0) → ((x : A) (y z : B) → R x y → R x z → y ≡ z) → (xs : List A) (ys zs : List B) → AllZip R xs ys → AllZip R xs zs → ys ≡ zs
one_list R one [] [] [] h k = refl
one_list R one [] [] (z ∷ zs) h k = absurd k
one_list R one [] (y ∷ ys) zs h k = absurd h
one_list R one (x ∷ xs) [] zs h k = absurd h
one_list R one (x ∷ xs) (y ∷ ys) [] h k = absurd k
one_list R one (x ∷ xs) (y ∷ ys) (z ∷ zs) h k = λ i. one x y z h.0 k.0 i ∷ one_list R one xs ys zs h.1 k.1 i

one_over : (state : State) (name : NameParts) (Below : ℕ → Verdict → Type 0) → ((number : ℕ) (v w : Verdict) → Below number v → Below number w → v ≡ w) → (o : Option Body) (v w : Verdict)
    → IsVerdictOver state name Below o v → IsVerdictOver state name Below o w → v ≡ w
one_over state name Below one None v w a b = absurd a
one_over state name Below one (Some body) v w a b =
    let kids = one_list Below one (children_of body) a.0 b.0 a.1 b.1 in
    one_verdict (mir_at state name body) (requirements_by (children_of body) a.0) v w a.2
    (subst (λ (ks : List Verdict). IsVerdictOf (mir_at state name body) (requirements_by (children_of body) ks) w) (sym kids) b.2)

one_within : (state : State) (levels : ℕ) (name : NameParts) (v w : Verdict) → IsVerdictWithin state levels name v → IsVerdictWithin state levels name w → v ≡ w
unfolding IsVerdictWithin
one_within state zero name v w a b = absurd a
one_within state (suc levels) name v w a b =
    one_over state name (λ number. IsVerdictWithin state levels (child name number)) (λ number. one_within state levels (child name number)) (state.bodies name) v w a b

one_at : (state : State) (name : NameParts) (v w : Verdict) → IsVerdictAt state name v → IsVerdictAt state name w → v ≡ w
unfolding IsVerdictAt
one_at state name v w a b = one_within state (levels_from name) name v w a b

one_reported : (state : State) (unit : NameParts × Body) (f g : BodyErrors) → IsReported state unit f → IsReported state unit g → f ≡ g
one_reported state unit f g a b =
    let named : f.name ≡ g.name = a.named ∙ sym b.named in
    let errors : f.errors ≡ g.errors = a.errors ∙ ap (λ (v : Verdict). v.errors) (one_at state unit.0 a.verdict b.verdict a.is_verdict b.is_verdict) ∙ sym b.errors in
    λ i. record { name = named i; errors = errors i }

one_after : (state : State) (name : NameParts) (fault : Option Outcome) (o p : Outcome) → IsOutcomeAfter state name fault o → IsOutcomeAfter state name fault p → o ≡ p
one_after state name (Some fault) o p a b = a ∙ sym b
one_after state name None o p a b = a.2 ∙ ap Report (one_list (IsReported state) (one_reported state) (units_at state name) a.0 b.0 a.1 b.1) ∙ sym b.2

one_of : (state : State) (name : NameParts) (held : Option Body) (o p : Outcome) → IsOutcomeOf state name held o → IsOutcomeOf state name held p → o ≡ p
one_of state name None o p a b = a ∙ sym b
one_of state name (Some body) o p a b = one_after state name (fault_at state name) o p a b

one_behind : (bad : Option ℕ) (state : State) (name : NameParts) (o p : Outcome) → IsOutcomeBehind bad state name o → IsOutcomeBehind bad state name p → o ≡ p
one_behind (Some index) state name o p a b = a ∙ sym b
one_behind None state name o p a b = one_of state name (state.bodies name) o p a b

pub one_outcome : (state : State) (name : NameParts) (o p : Outcome) → IsOutcomeIn state name o → IsOutcomeIn state name p → o ≡ p
one_outcome state name o p a b = one_behind (first_bad state.types) state name o p a b
