-- The outcome of a name depends only on its part of what is stored, since that has all names that are used.
use Rattle.std.proofs.Common.{◌≡◌, sym, subst, true, inl, inr}
use Rattle.bc_names.specs.Names.{NameParts, is_within}
use Rattle.bc_prov.specs.declared.outcome.Outcome.{Outcome}
use Rattle.bc_prov.specs.Outcome.{IsOutcomeIn}
use Rattle.bc_prov.specs.State.{State}
use Rattle.bc_outcomes.specs.Laws.{HaveSamePart, IsUsed}
use Rattle.bc_names.proofs.Within.{within_self, within_child}
use Rattle.bc_outcomes.proofs.Used.{outcome_used}

used_within : (root : NameParts) (state : State) (name : NameParts) → IsUsed root state name → is_within root name ≡ true
used_within root state name (inl is) = subst (λ (n : NameParts). is_within root n ≡ true) (sym is) (within_self root)
used_within root state name (inr below) = subst (λ (n : NameParts). is_within root n ≡ true) (sym below.named) (within_child root below.creator below.number below.within)

pub outcome_same : (a b : State) (root : NameParts) (o : Outcome) → HaveSamePart root a b → IsOutcomeIn a root o → IsOutcomeIn b root o
outcome_same a b root o same = outcome_used a b root o (record { types = same.types; bodies = λ name used. same.bodies name (used_within root a name used) })
