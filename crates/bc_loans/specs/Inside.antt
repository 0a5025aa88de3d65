-- Whether a point is in the value of a loan's region, and the words in which this is known.
use Rattle.std.specs.Prelude.{◌≡◌, ◌+◌, ◌<◌, ◌≤◌, ◌*◌, ◌/◌, ◌%◌, ℕ, Bool, true, false, List, length, slice_get, slice_index}
use Rattle.std.specs.Option.{option_map_or}
use Rattle.bc_flow.specs.Packed.{is_set}
use Rattle.bc_flow.specs.Flow.{row, holds}
use Rattle.bc_points.specs.declared.loan.Loan.{Loan}
use Rattle.bc_points.specs.Regions.{region_number}

-- the value of the loan's region has the point; both are numbers
abbrev pub is_inside : ℕ → List (ℕ × Loan) → (ℕ → ℕ → Bool) → ℕ → ℕ → Bool
is_inside universals loans value loan point =
    option_map_or (λ (made : ℕ × Loan). value (region_number universals made.1.region) point) (slice_get loans loan) false

-- a loan is inside at a point
abbrev pub inside_at : ℕ → List (ℕ × Loan) → (ℕ → ℕ → Bool) → ℕ → ℕ → Bool
inside_at universals loans value point loan = is_inside universals loans value loan point

-- `count` words were overwritten from an index on, and no others
pub record IsWritten (first count : ℕ) (block old new : List ℕ) : Type 0 where
  pub size : length new ≡ length old
  pub done : (k : ℕ) → k < count → slice_index new (first + k) ≡ slice_index block k
  pub rest : (i : ℕ) → (first ≤ i → first + count ≤ i) → slice_index new i ≡ slice_index old i

-- the words of points in known runs say, for each loan of one word, whether it is inside there
pub record AreTold (inside : ℕ → ℕ → Bool) (word : ℕ) (words : List ℕ) (runs : List (List Bool)) : Type 0 where
  pub some : 0 < length runs
  pub long : length words ≡ 64 * length (row runs 0)
  pub are : (point loan : ℕ) → holds runs 0 (point / 64) ≡ true → loan / 64 ≡ word → is_set (slice_index words point) (loan % 64) ≡ inside point loan
