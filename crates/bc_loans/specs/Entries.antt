-- The paths of loans as entries of tables: the local that each begins with, and its projections.
use Rattle.std.specs.Prelude.{ℕ, ◌+◌, Option, Some, None, List, [], ◌∷◌, slice_get}
use Rattle.std.specs.List.{flat_map, enumerate_from}
use Rattle.bc_syntax.specs.declared.syntax.Projection.{Projection}
use Rattle.bc_syntax.specs.declared.syntax.Projection.TheVariants.{Deref, Field}
use Rattle.bc_flow.specs.declared.tables.Entry.{Entry}
use Rattle.bc_points.specs.declared.loan.Loan.{Loan}

-- the entry of a loan at the local of its path
abbrev pub local_at : ℕ × (ℕ × Loan) → List Entry
local_at here = record { node = here.1.1.path.local; fact = here.0 } ∷ []

-- the entries of all loans at the locals of their paths
abbrev pub local_entries : List (ℕ × Loan) → List Entry
local_entries loans = flat_map local_at (enumerate_from 0 loans)

-- the number of a projection: 0 for a dereference, and one more than its own for a field
abbrev pub projection_number : Projection → ℕ
projection_number Deref = 0
projection_number (Field field) = field + 1

-- the entry of a loan at a projection, if there is one
abbrev pub entry_at : ℕ → Option Projection → Option Entry
entry_at loan None = None
entry_at loan (Some projection) = Some (record { node = projection_number projection; fact = loan })

-- the entry, if there is one
abbrev pub listed : Option Entry → List Entry
listed None = []
listed (Some entry) = entry ∷ []

-- the entry of a loan at the projection that its path has at a depth
abbrev pub projection_at : ℕ → ℕ × (ℕ × Loan) → List Entry
projection_at depth here = listed (entry_at here.0 (slice_get here.1.1.path.projections depth))

-- the entries of all loans at the projections that their paths have at a depth
abbrev pub projection_entries : ℕ → List (ℕ × Loan) → List Entry
projection_entries depth loans = flat_map (projection_at depth) (enumerate_from 0 loans)
