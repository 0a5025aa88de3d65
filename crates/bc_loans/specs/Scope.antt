-- Which loans are in scope on entry to which points.
use Rattle.std.specs.Prelude.{◌≡◌, ℕ, Bool, true, Some, List, [], ◌∷◌, ◌++◌, slice_get}
use Rattle.std.specs.List.{All}
use Rattle.bc_flow.specs.Graph.{IsPath}
use Rattle.bc_points.specs.declared.loan.Loan.{Loan}
use Rattle.bc_bodies.specs.Mir.{Mir, edges_of}
use Rattle.bc_points.specs.Points.{Kills}
use Rattle.bc_points.specs.Regions.{region_number}
use Rattle.bc_flow.specs.Flow.{holds}
use Rattle.bc_solve.specs.Values.{Tells}
use Rattle.bc_loans.specs.Loans.{loans_of}

-- The loan of this number is in scope on entry to a point: a path of at least one step leads there from the point that makes the loan. All
-- points of the path after the first are in the value of the loan's region, by the test `value`, and none before the last overwrites a
-- prefix of the loan's path (RFC 2094, "Borrow checker phase 1").
pub record IsInScope (mir : Mir) (value : ℕ → ℕ → Bool) (loan point : ℕ) : Type 0 where
  pub made : ℕ × Loan
  pub is_loan : slice_get (loans_of mir) loan ≡ Some made
  pub between : List ℕ
  pub is_path : IsPath (edges_of mir) (made.0 ∷ (between ++ point ∷ []))
  pub inside : All (λ p. value (region_number mir.universals made.1.region) p ≡ true) (between ++ point ∷ [])
  pub kept : All (λ p. ¬ (Kills mir made.1.path p)) (made.0 ∷ between)

-- the scopes have, for each point, exactly the loans that are in scope on entry to it, within these values
abbrev pub AreScopes : Mir → List (List Bool) → List (List Bool) → Type 0
AreScopes mir values scopes = Tells (holds scopes) (λ point loan. IsInScope mir (holds values) loan point)
