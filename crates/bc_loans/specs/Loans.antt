-- The loans of a unit. A loan is known by its index in their list, and printed as the point that makes it.
use Rattle.std.specs.Prelude.{ℕ, Option, Some, None, List, [], ◌∷◌}
use Rattle.std.specs.List.{flat_map, enumerate_from}
use Rattle.bc_bodies.specs.declared.mir.Step.{Step}
use Rattle.bc_points.specs.declared.loan.Loan.{Loan}
use Rattle.bc_bodies.specs.Mir.{Mir}
use Rattle.bc_points.specs.Points.{loan_of}

-- a loan with the point that makes it, if there is one
abbrev pub with_point : ℕ → Option Loan → List (ℕ × Loan)
with_point p None = []
with_point p (Some loan) = (p, loan) ∷ []

-- the loan that a numbered point makes, with the point, if it makes one
abbrev pub loans_of_step : ℕ × Step → List (ℕ × Loan)
loans_of_step here = with_point here.0 (loan_of here.1.instruction)

-- the loans of a unit, each with the point that makes it, in the order of the points (RFC 2094, "Borrow checker phase 1")
abbrev pub loans_of : Mir → List (ℕ × Loan)
loans_of mir = flat_map loans_of_step (enumerate_from 0 mir.steps)
