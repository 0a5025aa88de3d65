-- Which accesses conflict with which loans.
use Rattle.std.specs.Prelude.{ℕ, Bool, true, false, ◌&&◌, ◌||◌, if◌then◌else◌, List, [], ◌∷◌}
use Rattle.std.specs.List.{flat_map, enumerate_from}
use Rattle.bc_syntax.specs.declared.syntax.Place.{Place}
use Rattle.bc_points.specs.declared.access.Access.{Access}
use Rattle.bc_points.specs.declared.access.Depth.{Depth}
use Rattle.bc_points.specs.declared.access.Depth.TheVariants.{Shallow, Deep}
use Rattle.bc_points.specs.declared.access.AccessKind.{AccessKind}
use Rattle.bc_points.specs.declared.access.AccessKind.TheVariants.{Read, Write}
use Rattle.bc_bodies.specs.declared.mir.Step.{Step}
use Rattle.bc_points.specs.declared.loan.Loan.{Loan}
use Rattle.bc_bodies.specs.Mir.{Mir}
use Rattle.bc_shapes.specs.Mutabilities.{is_mutable}
use Rattle.bc_points.specs.Prefixes.{is_prefix, is_shallow_prefix}
use Rattle.bc_points.specs.Supports.{supports}
use Rattle.bc_points.specs.Accesses.{accesses_of}
use Rattle.bc_loans.specs.Loans.{loans_of}
use Rattle.bc_judge.specs.declared.conflicts.Conflict.{Conflict}

-- an access of this depth to a place is relevant to a loan of a path: the path is a prefix of the place, or the place is a prefix of the
-- path, a shallow one for a shallow access and a supporting one for a deep access
abbrev pub is_relevant_at : Mir → Depth → Place → Place → Bool
is_relevant_at mir Shallow place path = is_prefix path place || is_shallow_prefix place path
is_relevant_at mir Deep place path = is_prefix path place || supports mir place path

-- the access writes
abbrev pub is_write : AccessKind → Bool
is_write Read = false
is_write Write = true

-- an access conflicts with a loan if it is relevant to the loan, and if the access writes or the loan is mutable (RFC 2094, "Borrow checker
-- phase 2")
abbrev pub is_conflict : Mir → Access → Loan → Bool
is_conflict mir access loan =
    (is_write access.kind || is_mutable loan.mutability) && is_relevant_at mir access.depth access.place loan.path

-- a test of whether a loan is in scope on entry to a point, by the point's number and the loan's
abbrev pub ScopeTest : Type 0
ScopeTest = ℕ → ℕ → Bool

-- the conflict of a numbered access of a numbered point with a numbered loan, if they conflict and the loan is in scope there
abbrev pub conflict_with : Mir → (ℕ → Bool) → ℕ → ℕ × Access → ℕ × (ℕ × Loan) → List Conflict
conflict_with mir in_scope point access loan =
    if in_scope loan.0 && is_conflict mir access.1 loan.1.1
    then record { point = point; access = access.0; maker = loan.1.0; region = loan.1.1.region } ∷ []
    else []

-- the conflicts of one access of a numbered point, in the order of the loans
abbrev pub conflicts_of_access : Mir → (ℕ → Bool) → ℕ → ℕ × Access → List Conflict
conflicts_of_access mir in_scope point access =
    flat_map (conflict_with mir in_scope point access) (enumerate_from 0 (loans_of mir))

-- the conflicts of a numbered point, in the order of its accesses
abbrev pub conflicts_at : Mir → (ℕ → Bool) → ℕ × Step → List Conflict
conflicts_at mir in_scope here =
    flat_map (conflicts_of_access mir in_scope here.0) (enumerate_from 0 (accesses_of mir here.1.instruction))

-- the conflicts of a numbered point with the loans in scope there
abbrev pub conflicts_of_step : Mir → ScopeTest → ℕ × Step → List Conflict
conflicts_of_step mir in_scope here = conflicts_at mir (in_scope here.0) here

-- the conflicts of a body, by point, access and loan (RFC 2094, "Borrow checker phase 2")
abbrev pub conflicts_of : Mir → ScopeTest → List Conflict
conflicts_of mir in_scope = flat_map (conflicts_of_step mir in_scope) (enumerate_from 0 mir.steps)
