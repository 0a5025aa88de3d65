-- Which points keep a path, and which loans a point overwrites: those with a prefix of their path that it overwrites. Loans and points are
-- numbers.
use Rattle.std.specs.Prelude.{◌≡◌, ◌<◌, ◌≤◌, ℕ, Bool, true, false, not, ◌==◌, List, [], length, slice_get, slice_index_or as get_or}
use Rattle.std.specs.List.{All}
use Rattle.std.specs.Option.{option_map_or}
use Rattle.bc_syntax.specs.declared.syntax.Place.{Place}
use Rattle.bc_syntax.specs.declared.syntax.Projection.{Projection}
use Rattle.bc_bodies.specs.declared.mir.Step.{Step}
use Rattle.bc_bodies.specs.declared.mir.Instruction.{Instruction}
use Rattle.bc_points.specs.declared.loan.Loan.{Loan}
use Rattle.bc_flow.specs.Flow.{holds, HaveSize}
use Rattle.bc_points.specs.Points.{kills}
use Rattle.bc_points.specs.Prefixes.{is_prefix, same_projection}
use Rattle.bc_loans.specs.Entries.{projection_number}

-- no prefix of the path is overwritten at the point, by its number among all points
abbrev pub keeps : List Step → Place → ℕ → Bool
keeps steps path point = option_map_or (λ (step : Step). not (kills path step.instruction)) (slice_get steps point) true

-- the loan's path begins with a local
abbrev pub begins_with : List (ℕ × Loan) → ℕ → ℕ → Bool
begins_with loans local loan = option_map_or (λ (made : ℕ × Loan). local == made.1.path.local) (slice_get loans loan) false

-- the loan's path has a projection at a depth
abbrev pub projects : List (ℕ × Loan) → ℕ → Projection → ℕ → Bool
projects loans depth projection loan =
    option_map_or (λ (made : ℕ × Loan). option_map_or (same_projection projection) (slice_get made.1.path.projections depth) false) (slice_get loans loan) false

-- for each projection the loans whose paths have it at a depth
abbrev pub AreProjecting : List (ℕ × Loan) → ℕ → List (List Bool) → Type 0
AreProjecting loans depth rows = (projection : Projection) → (l : ℕ) → holds rows (projection_number projection) l ≡ projects loans depth projection l

-- there is such a table for each depth below their number, and no path is longer
pub record AreByDepth (loans : List (ℕ × Loan)) (tables : List (List (List Bool))) : Type 0 where
  pub projections : All (λ rows. length rows ≡ 257) tables
  pub sizes : All (λ rows. HaveSize (length loans) rows) tables
  pub projecting : (depth : ℕ) → depth < length tables → AreProjecting loans depth (get_or tables depth [])
  pub short : All (λ (made : ℕ × Loan). length made.1.path.projections ≤ length tables) loans

-- the loan's path has the prefix
abbrev pub has_prefix : List (ℕ × Loan) → Place → ℕ → Bool
has_prefix loans prefix loan = option_map_or (λ (made : ℕ × Loan). is_prefix prefix made.1.path) (slice_get loans loan) false

-- the instruction overwrites a prefix of the loan's path
abbrev pub is_overwritten : List (ℕ × Loan) → Instruction → ℕ → Bool
is_overwritten loans here loan = option_map_or (λ (made : ℕ × Loan). kills made.1.path here) (slice_get loans loan) false

-- the point overwrites a prefix of the loan's path
abbrev pub is_overwritten_at : List (ℕ × Loan) → List Step → ℕ → ℕ → Bool
is_overwritten_at loans steps point loan = option_map_or (λ (step : Step). is_overwritten loans step.instruction loan) (slice_get steps point) false
