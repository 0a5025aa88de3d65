-- Where loans walk to.
use Rattle.std.specs.Prelude.{ℕ, Bool, List, MatchOption, slice_get}
use Rattle.bc_flow.specs.declared.graph.Edge.{Edge}
use Rattle.bc_flow.specs.Reach.{Reaches}
use Rattle.bc_bodies.specs.declared.mir.Step.{Step}
use Rattle.bc_points.specs.declared.loan.Loan.{Loan}
use Rattle.bc_points.specs.Regions.{region_number}
use Rattle.bc_loans.specs.Overwrites.{keeps}

-- Edges lead from the point that makes the loan to this point, out of points that keep the loan's path and into points of its region's
-- value. The loan and the point are numbers, and `value` says which points each region has.
abbrev pub IsWalked : List Edge → List Step → ℕ → (ℕ → ℕ → Bool) → List (ℕ × Loan) → ℕ → ℕ → Type 0
IsWalked edges steps universals value loans loan point =
    MatchOption (slice_get loans loan) ⊥
    (λ (made : ℕ × Loan). Reaches edges (keeps steps made.1.path) (value (region_number universals made.1.region)) made.0 point)
