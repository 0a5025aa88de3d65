-- The outcome of a name, which is the reply to an ask.
use Rattle.std.specs.Prelude.{◌≡◌, ℕ, zero, suc, List, [], ◌∷◌, map, find, Option, Some, None, is_none}
use Rattle.std.specs.List.{AllZip, flat_map}
use Rattle.std.specs.Option.{option_map, option_or}
use Rattle.bc_names.specs.Names.{NameParts}
use Rattle.bc_syntax.specs.Children.{children_of}
use Rattle.bc_types.specs.Declarations.{first_bad}
use Rattle.bc_mir.specs.Typing.{misfit}
use Rattle.bc_syntax.specs.declared.syntax.Body.{Body}
use Rattle.bc_judge.specs.declared.verdict.Verdict.{Verdict}
use Rattle.bc_prov.specs.declared.outcome.BodyErrors.{BodyErrors}
use Rattle.bc_prov.specs.declared.outcome.Outcome.{Outcome}
use Rattle.bc_prov.specs.declared.outcome.Outcome.TheVariants.{NoBody, Missing, BadTypes, Ill, Report}
use Rattle.bc_prov.specs.State.{State, child, levels_from, mir_at}
use Rattle.bc_prov.specs.Verdicts.{IsVerdictAt}

-- names with their outcomes
abbrev pub OutcomeRows : Type 0
OutcomeRows = List (NameParts × Outcome)

-- the first of the name's closures with these numbers that is absent
abbrev pub absent_among : State → NameParts → List ℕ → Option NameParts
absent_among state name numbers = find (λ (n : NameParts). is_none (state.bodies n)) (map (child name) numbers)

-- the fault of a body alone: its least child that is absent, otherwise its misfit
abbrev pub own_fault : State → NameParts → Body → Option Outcome
own_fault state name body = option_or (option_map Missing (absent_among state name (children_of body))) (option_map (Ill name) (misfit (mir_at state name body)))

-- the first value that `f` gives for these numbers, in their order
abbrev pub first_among : {A : Type 0} → (ℕ → Option A) → List ℕ → Option A
first_among f [] = None
first_among f (number ∷ numbers) = option_or (f number) (first_among f numbers)

-- the first fault from a name on, given the body that it holds, if any; `below` gives the first fault from each of its closures on, by
-- number
abbrev pub fault_over : State → NameParts → (ℕ → Option Outcome) → Option Body → Option Outcome
fault_over state name below None = None
fault_over state name below (Some body) = option_or (own_fault state name body) (first_among below (children_of body))

-- the first fault from a name on, down to this many levels of closures
unfoldable pub fault_within : State → ℕ → NameParts → Option Outcome
fault_within state zero name = None
fault_within state (suc levels) name = fault_over state name (λ number. fault_within state levels (child name number)) (state.bodies name)

-- the first fault from a name on: its own, otherwise the first from each of its children on, ascending
unfoldable pub fault_at : State → NameParts → Option Outcome
fault_at state name = fault_within state (levels_from name) name

-- the bodies from a name on, given the body that it holds, if any; `below` gives the bodies from each of its closures on, by number
abbrev pub units_over : NameParts → (ℕ → List (NameParts × Body)) → Option Body → List (NameParts × Body)
units_over name below None = []
units_over name below (Some body) = (name, body) ∷ flat_map below (children_of body)

-- the bodies from a name on, down to this many levels of closures
unfoldable pub units_within : State → ℕ → NameParts → List (NameParts × Body)
units_within state zero name = []
units_within state (suc levels) name = units_over name (λ number. units_within state levels (child name number)) (state.bodies name)

-- the bodies from a name on, each with its name, in the order of the visit: its own, then those from each of its children on, ascending
unfoldable pub units_at : State → NameParts → List (NameParts × Body)
units_at state name = units_within state (levels_from name) name

-- the report of a visited body has its name, and the errors of the verdict on it
pub record IsReported (state : State) (unit : NameParts × Body) (found : BodyErrors) : Type 0 where
  pub named : found.name ≡ unit.0
  pub verdict : Verdict
  pub is_verdict : IsVerdictAt state unit.0 verdict
  pub errors : found.errors ≡ verdict.errors

-- the outcome of a name that holds a body, given the first fault from the name on, or that there is none: then it is the report of each
-- body, in the order of the visit
abbrev pub IsOutcomeAfter : State → NameParts → Option Outcome → Outcome → Type 0
IsOutcomeAfter state name (Some fault) outcome = outcome ≡ fault
IsOutcomeAfter state name None outcome = (found : List BodyErrors) × AllZip (IsReported state) (units_at state name) found × (outcome ≡ Report found)

-- the outcome of a name if no declaration is bad, given the body that it holds, or that it holds none
abbrev pub IsOutcomeOf : State → NameParts → Option Body → Outcome → Type 0
IsOutcomeOf state name None outcome = outcome ≡ NoBody
IsOutcomeOf state name (Some body) outcome = IsOutcomeAfter state name (fault_at state name) outcome

-- the outcome of a name, given the first bad declaration, or that none is bad
abbrev pub IsOutcomeBehind : Option ℕ → State → NameParts → Outcome → Type 0
IsOutcomeBehind (Some index) state name outcome = outcome ≡ BadTypes index
IsOutcomeBehind None state name outcome = IsOutcomeOf state name (state.bodies name) outcome

-- The outcome of a name. If a declaration is bad, it is the first bad one. Otherwise, if the name holds no body, it says so. Otherwise it
-- is the first fault from the name on. If there is none, it is the report of all bodies from the name on.
abbrev pub IsOutcomeIn : State → NameParts → Outcome → Type 0
IsOutcomeIn state name outcome = IsOutcomeBehind (first_bad state.types) state name outcome
