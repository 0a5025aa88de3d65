-- The loans that an access may conflict with, found in rows by its kind and its local.
use Rattle.std.specs.Prelude.{◌≡◌, ℕ, ◌+◌, ◌*◌, Bool, true, false, ◌&&◌, ◌||◌, ◌≤◌, ◌<◌, List, Some, slice_get}
use Rattle.bc_syntax.specs.declared.syntax.Mutability.{Mutability}
use Rattle.bc_points.specs.declared.access.Access.{Access}
use Rattle.bc_points.specs.declared.access.AccessKind.{AccessKind}
use Rattle.bc_points.specs.declared.access.AccessKind.TheVariants.{Read, Write}
use Rattle.bc_points.specs.declared.loan.Loan.{Loan}
use Rattle.bc_flow.specs.BitSet.{has}
use Rattle.bc_flow.specs.Flow.{holds}
use Rattle.bc_bodies.specs.Mir.{Mir}
use Rattle.bc_shapes.specs.Mutabilities.{is_mutable}
use Rattle.bc_judge.specs.Conflicts.{is_write, is_conflict}

-- the access writes, or the loan is mutable
abbrev pub one_writes : AccessKind → Mutability → Bool
one_writes kind mutability = is_write kind || is_mutable mutability

-- the number of the row for accesses of a kind to a local
abbrev pub row_number : AccessKind → ℕ → ℕ
row_number Read local = 2 * local
row_number Write local = 2 * local + 1

-- each loan is in the rows for its path's local, unless both the accesses and the loan only read
abbrev pub HaveCandidates : List (ℕ × Loan) → List (List Bool) → Type 0
HaveCandidates loans rows =
    (kind : AccessKind) (l : ℕ) (made : ℕ × Loan) → slice_get loans l ≡ Some made → one_writes kind made.1.mutability ≡ true →
    holds rows (row_number kind made.1.path.local) l ≡ true

-- each loan with which an access conflicts is among these
abbrev pub AreCandidates : Mir → Access → List (ℕ × Loan) → List Bool → Type 0
AreCandidates mir access loans among =
    (l : ℕ) (made : ℕ × Loan) → slice_get loans l ≡ Some made → is_conflict mir access made.1 ≡ true → has among l ≡ true

-- a number is in both rows
abbrev pub both_have : List Bool → List Bool → ℕ → Bool
both_have one other i = has one i && has other i

-- the least number from `from` on that is in both rows
pub record IsNextInBoth (one other : List Bool) (from number : ℕ) : Type 0 where
  pub onward : from ≤ number
  pub in_one : has one number ≡ true
  pub in_other : has other number ≡ true
  pub least : (i : ℕ) → from ≤ i → i < number → both_have one other i ≡ false
