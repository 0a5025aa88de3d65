-- The definitions by levels, unfolded at one name.
use Rattle.std.proofs.Common.{◌≡◌, ℕ, suc, ◌≤◌, List, [], ◌∷◌, length, sym, ap, ◌∙◌, subst, arith, length-append}
use Rattle.std.specs.Prelude.{Option, Some}
use Rattle.std.specs.List.{flat_map}
use Rattle.std.specs.Option.{option_or}
use Rattle.bc_names.specs.Names.{NameParts}
use Rattle.bc_syntax.specs.Children.{children_of}
use Rattle.bc_syntax.specs.declared.syntax.Body.{Body}
use Rattle.bc_judge.specs.declared.verdict.Verdict.{Verdict}
use Rattle.bc_prov.specs.declared.outcome.Outcome.{Outcome}
use Rattle.bc_prov.specs.State.{State, child, levels_from}
use Rattle.bc_prov.specs.Verdicts.{IsVerdictAt, IsVerdictWithin, IsVerdictOver}
use Rattle.bc_prov.specs.Outcome.{own_fault, first_among, fault_over, fault_within, fault_at, units_over, units_within, units_at}

-- a child has one level fewer
levels : (name : NameParts) (number : ℕ) → length name.segments ≤ 7 → levels_from name ≡ suc (levels_from (child name number))
levels name number short = omega (arith, short, length-append name.segments (number ∷ []))

pub fault-step : (state : State) (name : NameParts) (body : Body) → length name.segments ≤ 7 → state.bodies name ≡ Some body
    → fault_at state name ≡ option_or (own_fault state name body) (first_among (λ number. fault_at state (child name number)) (children_of body))
unfolding fault_at fault_within
fault-step state name body short held =
    ap (λ n. fault_within state n name) (levels name 0 short)
    ∙ ap (fault_over state name (λ number. fault_within state (levels_from (child name 0)) (child name number))) held
    ∙ ap (λ (below : ℕ → Option Outcome). fault_over state name below (Some body)) (λ i number. fault_within state (same number i) (child name number))
  where
    same : (number : ℕ) → levels_from (child name 0) ≡ levels_from (child name number)
    same number = omega (arith, length-append name.segments (0 ∷ []), length-append name.segments (number ∷ []))

pub units-step : (state : State) (name : NameParts) (body : Body) → length name.segments ≤ 7 → state.bodies name ≡ Some body
    → units_at state name ≡ (name, body) ∷ flat_map (λ number. units_at state (child name number)) (children_of body)
unfolding units_at units_within
units-step state name body short held =
    ap (λ n. units_within state n name) (levels name 0 short)
    ∙ ap (units_over name (λ number. units_within state (levels_from (child name 0)) (child name number))) held
    ∙ ap (λ (below : ℕ → List (NameParts × Body)). units_over name below (Some body)) (λ i number. units_within state (same number i) (child name number))
  where
    same : (number : ℕ) → levels_from (child name 0) ≡ levels_from (child name number)
    same number = omega (arith, length-append name.segments (0 ∷ []), length-append name.segments (number ∷ []))

pub verdict-step : (state : State) (name : NameParts) (body : Body) (verdict : Verdict) → length name.segments ≤ 7 → state.bodies name ≡ Some body
    → IsVerdictOver state name (λ number. IsVerdictAt state (child name number)) (Some body) verdict → IsVerdictAt state name verdict
unfolding IsVerdictAt IsVerdictWithin
verdict-step state name body verdict short held is =
    subst (λ n. IsVerdictWithin state n name verdict) (sym (levels name 0 short))
    (subst (λ (o : Option Body). IsVerdictOver state name (λ number. IsVerdictWithin state (levels_from (child name 0)) (child name number)) o verdict) (sym held)
    (subst (λ (Below : ℕ → Verdict → Type 0). IsVerdictOver state name Below (Some body) verdict) (λ i number. IsVerdictWithin state (same number i) (child name number)) is))
  where
    same : (number : ℕ) → levels_from (child name number) ≡ levels_from (child name 0)
    same number = omega (arith, length-append name.segments (0 ∷ []), length-append name.segments (number ∷ []))
