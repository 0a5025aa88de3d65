-- Values, and the errors within them, are the same over the same start elements and constraints.
use Rattle.std.proofs.Common.{◌≡◌, ℕ, Bool, List, subst}
use Rattle.bc_syntax.specs.declared.syntax.Region.{Region}
use Rattle.bc_cons.specs.declared.facts.NumberedConstraint.{NumberedConstraint}
use Rattle.bc_bodies.specs.Mir.{Mir}
use Rattle.bc_solve.specs.Values.{IsInValue, Tells}
use Rattle.bc_solve.specs.Chains.{ExplainsOver}
use Rattle.bc_judge.specs.declared.error.BorrowError.{BorrowError}
use Rattle.bc_judge.specs.Errors.{AreErrors}

pub value_over : (starts wanted : ℕ → ℕ → Bool) (pairs wanted_pairs : List NumberedConstraint) (value : ℕ → ℕ → Bool) → ((q f : ℕ) → starts q f ≡ wanted q f) → pairs ≡ wanted_pairs →
    Tells value (IsInValue starts pairs) → Tells value (IsInValue wanted wanted_pairs)
value_over starts wanted pairs wanted_pairs value same is tells =
    subst (λ (p : (ℕ → ℕ → Bool) × List NumberedConstraint). Tells value (IsInValue p.0 p.1)) (λ i. (λ q f. same q f i, is i)) tells

pub errors_over : (mir : Mir) (in_scope value : ℕ → ℕ → Bool) (errors : List BorrowError) (universals wanted_universals : ℕ) (starts wanted : ℕ → ℕ → Bool) (pairs wanted_pairs : List NumberedConstraint) →
    universals ≡ wanted_universals → ((q f : ℕ) → starts q f ≡ wanted q f) → pairs ≡ wanted_pairs →
    AreErrors mir (ExplainsOver universals starts pairs) in_scope value errors → AreErrors mir (ExplainsOver wanted_universals wanted wanted_pairs) in_scope value errors
errors_over mir in_scope value errors universals wanted_universals starts wanted pairs wanted_pairs so_many same is are =
    subst (λ (p : ℕ × ((ℕ → ℕ → Bool) × List NumberedConstraint)). AreErrors mir (ExplainsOver p.0 p.1.0 p.1.1) in_scope value errors) (λ i. (so_many i, (λ q f. same q f i, is i))) are
