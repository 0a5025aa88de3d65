-- The elements that explain errors are in the values of their regions.
use Rattle.std.proofs.Common.{◌≡◌, ℕ, Bool, true, List, [], ◌∷◌, ◌++◌, Some, sym, ◌∙◌, subst}
use Rattle.std.specs.Prelude.{slice_get}
use Rattle.std.specs.List.{Contains}
use Rattle.std.proofs.Math.Bool.{Bool-set}
use Rattle.std.proofs.Math.Logic.{∥∥₁_elim}
use Rattle.std.proofs.lemmas.Option.{get_or_from_slice_get}
use Rattle.std.proofs.lemmas.List.Elements.{All-contains, Contains-append_right}
use Rattle.bc_syntax.specs.declared.syntax.Outlives.{Outlives}
use Rattle.bc_flow.specs.Flow.{holds}
use Rattle.bc_flow.proofs.Membership.{Contains-head}
use Rattle.bc_points.specs.declared.loan.Loan.{Loan}
use Rattle.bc_points.specs.Regions.{region_number}
use Rattle.bc_bodies.specs.Mir.{Mir}
use Rattle.bc_cons.specs.Facts.{RegionFacts}
use Rattle.bc_solve.specs.Values.{AreValues, IsInValue, Tells}
use Rattle.bc_solve.specs.Chains.{Explains, TellsChains}
use Rattle.bc_solve.proofs.Telling.{in_value}
use Rattle.bc_solve.proofs.Shortest.{explained_once}
use Rattle.bc_loans.specs.Loans.{loans_of}
use Rattle.bc_loans.specs.Scope.{IsInScope, AreScopes}
use Rattle.bc_judge.specs.declared.conflicts.Conflict.{Conflict}
use Rattle.bc_judge.specs.Conflicts.{conflicts_of}
use Rattle.bc_judge.specs.Lifetimes.{TellsKnown, end_of, lifetimes_of}
use Rattle.bc_judge.specs.Errors.{ChainTo}
use Rattle.bc_judge.specs.Explained.{AreInside, HaveEnds}
use Rattle.bc_judge.proofs.Law.{IsWithin, IsOne, from_conflicts, from_lifetimes}

-- a loan in scope on entry to a point has it in the value of its region
scope_within : (mir : Mir) (value : ℕ → ℕ → Bool) (number point : ℕ) (made : ℕ × Loan) → slice_get (loans_of mir) number ≡ Some made → IsInScope mir value number point →
    value (region_number mir.universals made.1.region) point ≡ true
scope_within mir value number point made is_loan h =
    let same : h.made ≡ made = sym (get_or_from_slice_get (loans_of mir) number h.made made h.is_loan) ∙ get_or_from_slice_get (loans_of mir) number made made is_loan in
    let last : value (region_number mir.universals h.made.1.region) point ≡ true =
    All-contains (λ p. value (region_number mir.universals h.made.1.region) p ≡ true) (h.between ++ point ∷ []) point h.inside
    (Contains-append_right h.between (point ∷ []) point (Contains-head point [])) in
    subst (λ (m : ℕ × Loan). value (region_number mir.universals m.1.region) point ≡ true) same last

pub scopes_within : (mir : Mir) (value in_scope : ℕ → ℕ → Bool) → Tells in_scope (λ point loan. IsInScope mir value loan point) → IsWithin mir in_scope value
scopes_within mir value in_scope tells point number made has is_loan = ∥∥₁_elim ((tells point number).0 has) (Bool-set _ _) (scope_within mir value number point made is_loan)

pub conflicts_inside : (mir : Mir) (facts : RegionFacts) (values scopes : List (List Bool)) → AreValues facts values → AreScopes mir values scopes → AreInside mir facts (conflicts_of mir (holds scopes))
conflicts_inside mir facts values scopes are_values are_scopes c there =
    let listed = from_conflicts mir (holds scopes) c there in
    let has = scopes_within mir (holds values) (holds scopes) are_scopes c.point listed.loan_number (c.maker, listed.loan) listed.in_scope_here listed.is_loan in
    subst (λ r. IsInValue (holds facts.starts) facts.pairs (region_number mir.universals r) c.point) listed.region
    (in_value facts values are_values (region_number mir.universals listed.loan.region) c.point has)

pub failures_have_ends : (mir : Mir) (facts : RegionFacts) (values : List (List Bool)) (known : ℕ → ℕ → Bool) → AreValues facts values → TellsKnown mir known → HaveEnds mir facts (lifetimes_of mir (holds values) known)
failures_have_ends mir facts values known are tells f there =
    in_value facts values are f.longer (end_of mir f.shorter) (from_lifetimes mir (holds values) known tells f there).0.has_end

-- a function that gives chains explains what values have
pub explains_values : (facts : RegionFacts) (values : List (List Bool)) (chain : ChainTo) → AreValues facts values → TellsChains facts chain →
    (r e : ℕ) → holds values r e ≡ true → Explains facts r e (chain r e)
explains_values facts values chain are tells r e has = tells r e (in_value facts values are r e has)

pub explained_one : (facts : RegionFacts) → IsOne (Explains facts)
explained_one facts = explained_once facts.universals (holds facts.starts) facts.pairs
