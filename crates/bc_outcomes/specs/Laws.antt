-- What is always true of outcomes.
use Rattle.std.specs.Prelude.{◌≡◌, ◌⊎◌, ℕ, true, Some}
use Rattle.std.specs.List.{Contains}
use Rattle.bc_syntax.specs.declared.syntax.Body.{Body}
use Rattle.bc_syntax.specs.Children.{children_of}
use Rattle.bc_names.specs.Names.{NameParts, is_within}
use Rattle.bc_prov.specs.declared.outcome.Outcome.{Outcome}
use Rattle.bc_prov.specs.State.{State, child}
use Rattle.bc_prov.specs.Outcome.{IsOutcomeIn}

-- two outcomes of a name in one state are equal
abbrev pub OutcomesAreUnique : Type 0
OutcomesAreUnique = (state : State) (name : NameParts) (one other : Outcome) → IsOutcomeIn state name one → IsOutcomeIn state name other → one ≡ other

-- two states have the same declarations, and the same bodies at a name and at all names that begin with it and `/`
pub record HaveSamePart (root : NameParts) (one other : State) : Type 0 where
  pub types : one.types ≡ other.types
  pub bodies : (name : NameParts) → is_within root name ≡ true → one.bodies name ≡ other.bodies name

-- states with the same part for a name have the same outcome of it
abbrev pub OutcomesAreLocal : Type 0
OutcomesAreLocal = (one other : State) (root : NameParts) (outcome : Outcome) → HaveSamePart root one other → IsOutcomeIn one root outcome → IsOutcomeIn other root outcome

-- the name is a closure, stored or not, of a body that is stored at the root or at a name that begins with the root and `/`
pub record IsClosureBelow (root : NameParts) (state : State) (name : NameParts) : Type 0 where
  pub creator : NameParts
  pub body : Body
  pub number : ℕ
  pub within : is_within root creator ≡ true
  pub held : state.bodies creator ≡ Some body
  pub among : Contains (children_of body) number
  pub named : name ≡ child creator number

-- the outcome of the root depends on what is stored at this name: it is the root, or a closure of a body from the root on
abbrev pub IsUsed : NameParts → State → NameParts → Type 0
IsUsed root state name = (name ≡ root) ⊎ IsClosureBelow root state name

-- two states have the same declarations, and the same bodies at all names that the outcome of the root depends on in the first
pub record HaveSameUsed (root : NameParts) (one other : State) : Type 0 where
  pub types : one.types ≡ other.types
  pub bodies : (name : NameParts) → IsUsed root one name → one.bodies name ≡ other.bodies name

-- states with the same bodies at the names that an outcome depends on have the same outcome
abbrev pub OutcomesRestOnUsedNames : Type 0
OutcomesRestOnUsedNames =
    (one other : State) (root : NameParts) (outcome : Outcome) → HaveSameUsed root one other → IsOutcomeIn one root outcome → IsOutcomeIn other root outcome
