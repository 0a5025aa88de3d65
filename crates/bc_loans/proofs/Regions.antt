-- The points in the region of each loan, and the loans that are inside at each point.
use Rattle.std.proofs.Common.{◌≡◌, ℕ, ◌≤◌, inl, inr, Bool, false, List, [], length, Some, refl, ap, arith}
use Rattle.std.specs.Prelude.{slice_get}
use Rattle.std.proofs.lemmas.Bool.{cases_lt}
use Rattle.std.proofs.lemmas.List.{get_or_past}
use Rattle.std.proofs.lemmas.Option.{slice_get_past}
use Rattle.bc_flow.specs.BitSet.{has}
use Rattle.bc_flow.specs.Flow.{row, holds, HaveSize}
use Rattle.bc_points.specs.declared.loan.Loan.{Loan}
use Rattle.bc_points.specs.Regions.{region_number}
use Rattle.bc_loans.specs.Inside.{is_inside}

-- a number that is no loan is in no row
pub no_place : (rows : List (List Bool)) (count l p : ℕ) → HaveSize count rows → count ≤ l → holds rows p l ≡ false
no_place rows count l p sizes past = elim (cases_lt p (length rows)) [
  | inl within ↦ get_or_past (row rows p) l false (let size = sizes p [] within in omega (arith, size, past))
  | inr beyond ↦ ap (λ s. has s l) (get_or_past rows p [] beyond)
]

-- the value of the loan's region
pub inside_of : (universals : ℕ) (loans : List (ℕ × Loan)) (value : ℕ → ℕ → Bool) (l : ℕ) (made : ℕ × Loan) (region : ℕ) → slice_get loans l ≡ Some made → region ≡ region_number universals made.1.region →
    (p : ℕ) → value region p ≡ is_inside universals loans value l p
inside_of universals loans value l made region is number p = rw (is, number) refl

pub no_loan : (universals : ℕ) (loans : List (ℕ × Loan)) (value : ℕ → ℕ → Bool) (l p : ℕ) → length loans ≤ l → is_inside universals loans value l p ≡ false
no_loan universals loans value l p past = rw (slice_get_past loans l past) refl
