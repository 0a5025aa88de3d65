-- Tests that decide facts.
use Rattle.std.proofs.Common.{◌≡◌, ℕ, ◌↔◌, Bool, true, List}
use Rattle.std.proofs.Math.Bool.{Bool-set}
use Rattle.std.proofs.Math.Logic.{∥∥₁_elim}
use Rattle.bc_flow.specs.Flow.{holds}
use Rattle.bc_cons.specs.Facts.{RegionFacts}
use Rattle.bc_solve.specs.Values.{IsInValue, Tells, AreValues}

-- a test that decides a fact decides whether there is a proof of it
pub told : (test : ℕ → ℕ → Bool) (Fact : ℕ → ℕ → Type 0) → ((x y : ℕ) → (test x y ≡ true) ↔ Fact x y) → Tells test Fact
told test Fact tells x y = (λ is. ∣ (tells x y).0 is ∣₁, λ fact. ∥∥₁_elim fact (Bool-set _ _) (tells x y).1)

-- what the values have is in the value
pub in_value : (facts : RegionFacts) (values : List (List Bool)) → AreValues facts values → (r e : ℕ) → holds values r e ≡ true → IsInValue (holds facts.starts) facts.pairs r e
in_value facts values are r e has = λ assignment lawful. ∥∥₁_elim ((are r e).0 has) (Bool-set _ _) (λ is. is assignment lawful)
