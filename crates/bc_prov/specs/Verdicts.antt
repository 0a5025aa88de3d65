-- The verdict on a body, which is its errors and its requirements, and by recursion on longer names the verdict on the body at a name.
use Rattle.std.specs.Prelude.{ℕ, zero, suc, Bool, List, map, Option, Some, None}
use Rattle.std.specs.List.{AllZip, zip}
use Rattle.bc_syntax.specs.declared.syntax.Body.{Body}
use Rattle.bc_syntax.specs.Children.{children_of}
use Rattle.bc_names.specs.Names.{NameParts}
use Rattle.bc_bodies.specs.Mir.{Mir}
use Rattle.bc_live.specs.Live.{IsLive}
use Rattle.bc_cons.specs.declared.requirements.Requirements.{Requirements}
use Rattle.bc_cons.specs.Constraints.{constraints_of}
use Rattle.bc_cons.specs.Starts.{starts_with}
use Rattle.bc_solve.specs.Values.{IsInValue, Tells}
use Rattle.bc_solve.specs.Chains.{ExplainsOver}
use Rattle.bc_loans.specs.Scope.{IsInScope}
use Rattle.bc_judge.specs.declared.verdict.Verdict.{Verdict}
use Rattle.bc_judge.specs.Errors.{AreErrors, AreRequirements}
use Rattle.bc_prov.specs.State.{State, child, levels_from, mir_at}

-- The verdict on a body, given what its children require. `live` decides on entry to which points each local is live, `value` which
-- elements are in the value of each region over that liveness, and `in_scope` which loans are in scope on entry to each point within those
-- values. The errors and the requirements are the conflicts and the failures there. The chain of an error explains it by the same start
-- elements and constraints.
pub record IsVerdictOf (mir : Mir) (kids : List (ℕ × Requirements)) (verdict : Verdict) : Type 0 where
  pub live : ℕ → ℕ → Bool
  pub value : ℕ → ℕ → Bool
  pub in_scope : ℕ → ℕ → Bool
  pub tells_live : Tells live (IsLive mir)
  pub tells_value : Tells value (IsInValue (starts_with mir live) (constraints_of mir kids))
  pub tells_scope : Tells in_scope (λ point loan. IsInScope mir value loan point)
  pub errors : AreErrors mir (ExplainsOver mir.universals (starts_with mir live) (constraints_of mir kids)) in_scope value verdict.errors
  pub requirements : AreRequirements mir value verdict.requirements

-- the numbers of closures, each with what the verdict on that closure requires
abbrev pub requirements_by : List ℕ → List Verdict → List (ℕ × Requirements)
requirements_by numbers verdicts = zip numbers (map (λ (v : Verdict). v.requirements) verdicts)

-- the verdict on the body at a name, if `Below` says which are the verdicts on its closures, by number. A name that holds no body has none
abbrev pub IsVerdictOver : State → NameParts → (ℕ → Verdict → Type 0) → Option Body → Verdict → Type 0
IsVerdictOver state name Below None verdict = ⊥
IsVerdictOver state name Below (Some body) verdict =
    (kids : List Verdict) × AllZip Below (children_of body) kids × IsVerdictOf (mir_at state name body) (requirements_by (children_of body) kids) verdict

-- the verdict on the body at a name, down to this many levels of closures
unfoldable pub IsVerdictWithin : State → ℕ → NameParts → Verdict → Type 0
IsVerdictWithin state zero name verdict = ⊥
IsVerdictWithin state (suc levels) name verdict =
    IsVerdictOver state name (λ number. IsVerdictWithin state levels (child name number)) (state.bodies name) verdict

-- the verdict on the body at a name, given the verdicts on its children, by recursion on longer names
unfoldable pub IsVerdictAt : State → NameParts → Verdict → Type 0
IsVerdictAt state name = IsVerdictWithin state (levels_from name) name
