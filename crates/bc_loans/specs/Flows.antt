-- What decides where the loans of a body flow, and how far they have flowed.
use Rattle.std.specs.Prelude.{◌≡◌, ℕ, ◌+◌, ◌*◌, ◌/◌, ◌↔◌, ◌&&◌, ◌==◌, Bool, true, List, length}
use Rattle.bc_flow.specs.Flow.{holds, HaveSize}
use Rattle.bc_loans.specs.Inside.{inside_at, AreTold}
use Rattle.bc_loans.specs.Sweeps.{HasSet, AreReached, AreWalked, IsSeed, IsSwept, WalksTo, passes}
use Rattle.bc_loans.specs.Walks.{IsWalked}
use Rattle.bc_loans.specs.declared.loan_flow.LoanFlow.{LoanFlow}
use Rattle.bc_loans.specs.declared.sweeps.Sweep.{Sweep}

-- the value of the loan's region has the point; both are numbers
abbrev pub inside : LoanFlow → ℕ → ℕ → Bool
inside flow = inside_at flow.universals flow.set.loans.now (holds flow.values.now)

-- a loan of the word is in the row of a point, which does not overwrite it
abbrev pub goes_on : LoanFlow → ℕ → List (List Bool) → ℕ → ℕ → Bool
goes_on flow word rows point loan = (loan / 64 == word) && passes flow.set.loans.now flow.steps.now rows point loan

-- the loan flows to the point from the one that makes it
abbrev pub IsSeedIn : LoanFlow → ℕ → ℕ → Type 0
IsSeedIn flow point loan = IsSeed flow.edges.now flow.steps.now flow.set.loans.now (inside flow) point loan

-- the loan walks to the point, through points where it is inside
abbrev pub WalksIn : LoanFlow → ℕ → ℕ → Type 0
WalksIn flow point loan = WalksTo flow.edges.now flow.steps.now flow.set.loans.now (inside flow) point loan

-- the loan walks to the point within the value of its region
abbrev pub IsWalkedIn : LoanFlow → ℕ → ℕ → Type 0
IsWalkedIn flow loan point = IsWalked flow.edges.now flow.steps.now flow.universals (holds flow.values.now) flow.set.loans.now loan point

-- a sweep has a row of loans and a word for each point
pub record IsReady (flow : LoanFlow) (sweep : Sweep) : Type 0 where
  pub points : length sweep.rows ≡ length flow.steps.now
  pub rows : HaveSize (length flow.set.loans.now) sweep.rows
  pub long : length sweep.insides.words.items ≡ 64 * ((length flow.steps.now + 63) / 64)

-- the sweep notes each point whose row has a loan of the word, and its known words say which loans of the word are inside at points
pub record IsSweep (flow : LoanFlow) (word : ℕ) (sweep : Sweep) : Type 0 where
  pub ready : IsReady flow sweep
  pub told : AreTold (inside flow) word sweep.insides.words.items sweep.insides.runs
  pub set : HasSet (length flow.steps.now) sweep.reached
  pub reached : AreReached word sweep.rows sweep.reached

-- all points were swept for a word of loans; `again` is true if a loan is new at a point that was passed
abbrev pub AreSwept : LoanFlow → ℕ → Bool → List (List Bool) → List (List Bool) → Type 0
AreSwept flow word again old new = IsSwept flow.edges.now flow.steps.now flow.set.loans.now (inside flow) word (length flow.steps.now) again old new

-- each loan of the word is where it flows from the point that makes it, and no loan is where it does not walk to
pub record IsBegun (flow : LoanFlow) (word : ℕ) (rows : List (List Bool)) : Type 0 where
  pub seeds : (n l : ℕ) → l / 64 ≡ word → IsSeedIn flow n l → holds rows n l ≡ true
  pub sound : (n l : ℕ) → holds rows n l ≡ true → WalksIn flow n l

-- the loans of the word walked, and the others are where they were
pub record IsWordWalked (flow : LoanFlow) (word : ℕ) (old new : List (List Bool)) : Type 0 where
  pub walks : (n l : ℕ) → l / 64 ≡ word → (holds new n l ≡ true) ↔ WalksIn flow n l
  pub others : (n l : ℕ) → (l / 64 ≡ word → ⊥) → holds new n l ≡ holds old n l

-- the loans of the first words walked, and the others are where they flow from the points that make them
abbrev pub AreWalkedIn : LoanFlow → ℕ → List (List Bool) → Type 0
AreWalkedIn flow word rows = AreWalked flow.edges.now flow.steps.now flow.set.loans.now (inside flow) word rows
