-- Sweeps over the points for one word of 64 loans: which of them flow on from a point, and to where. `inside` is true if the value of a
-- loan's region has the point.
use Rattle.std.specs.Prelude.{◌≡◌, ℕ, ◌<◌, ◌≤◌, ◌⊎◌, ◌↔◌, ◌/◌, ◌&&◌, Bool, true, false, not, ⊤, List, length, MatchOption, slice_get}
use Rattle.std.specs.List.{sum_by}
use Rattle.bc_flow.specs.declared.graph.Edge.{Edge}
use Rattle.bc_flow.specs.Graph.{HasEdge}
use Rattle.bc_flow.specs.BitSet.{absent_count}
use Rattle.bc_flow.specs.Flow.{row, holds}
use Rattle.bc_flow.specs.Reach.{Reaches}
use Rattle.bc_bodies.specs.declared.mir.Step.{Step}
use Rattle.bc_points.specs.declared.loan.Loan.{Loan}
use Rattle.bc_loans.specs.Overwrites.{keeps, is_overwritten_at}

-- edges lead from the point that makes the loan to this point, out of points that keep its path and into points where it is inside
abbrev pub WalksTo : List Edge → List Step → List (ℕ × Loan) → (ℕ → ℕ → Bool) → ℕ → ℕ → Type 0
WalksTo edges steps loans inside point loan =
    MatchOption (slice_get loans loan) ⊥ (λ (made : ℕ × Loan). Reaches edges (keeps steps made.1.path) (λ p. inside p loan) made.0 point)

-- an edge leads from the point that makes the loan, and keeps it, to this one, where it is inside
abbrev pub IsSeed : List Edge → List Step → List (ℕ × Loan) → (ℕ → ℕ → Bool) → ℕ → ℕ → Type 0
IsSeed edges steps loans inside point loan =
    MatchOption (slice_get loans loan) ⊥ (λ (made : ℕ × Loan). (keeps steps made.1.path made.0 ≡ true) × HasEdge edges made.0 point × (inside point loan ≡ true))

-- the loan is in the row of the point, and the point does not overwrite it
abbrev pub passes : List (ℕ × Loan) → List Step → List (List Bool) → ℕ → ℕ → Bool
passes loans steps rows point loan = holds rows point loan && not (is_overwritten_at loans steps point loan)

-- the loans of a set entered along the edges from a point; `again` is true if a new one entered at that point or before it
pub record ArePushed (edges : List Edge) (point : ℕ) (here : ℕ → Bool) (inside : ℕ → ℕ → Bool) (again : Bool) (old new : List (List Bool)) : Type 0 where
  pub kept : (n l : ℕ) → holds old n l ≡ true → holds new n l ≡ true
  pub pushed : (n l : ℕ) → HasEdge edges point n → here l ≡ true → inside n l ≡ true → holds new n l ≡ true
  pub no_more : (n l : ℕ) → holds new n l ≡ true → (holds old n l ≡ true) ⊎ (HasEdge edges point n × (here l ≡ true) × (inside n l ≡ true))
  pub behind : again ≡ false → (n : ℕ) → n ≤ point → row new n ≡ row old n
  pub progress : sum_by absent_count new ≤ sum_by absent_count old
  pub grown : again ≡ true → sum_by absent_count new < sum_by absent_count old

-- the table has a first row, of this size
pub record HasSet (count : ℕ) (table : List (List Bool)) : Type 0 where
  pub some : 0 < length table
  pub size : length (row table 0) ≡ count

-- the set has each point whose row has a loan of the word
abbrev pub AreReached : ℕ → List (List Bool) → List (List Bool) → Type 0
AreReached word rows reached = (point loan : ℕ) → loan / 64 ≡ word → holds rows point loan ≡ true → holds reached 0 point ≡ true

-- the set has the points to which edges lead from the one that makes the loan
abbrev pub AreTargets : List Edge → List (ℕ × Loan) → ℕ → List (List Bool) → Type 0
AreTargets edges loans loan reached = MatchOption (slice_get loans loan) ⊤ (λ (made : ℕ × Loan). (point : ℕ) → HasEdge edges made.0 point → holds reached 0 point ≡ true)

-- each loan of the word that passes the point is where edges lead and it is inside
abbrev pub IsClosed : List Edge → List Step → List (ℕ × Loan) → (ℕ → ℕ → Bool) → ℕ → List (List Bool) → ℕ → Type 0
IsClosed edges steps loans inside word rows m =
    (n l : ℕ) → l / 64 ≡ word → HasEdge edges m n → passes loans steps rows m l ≡ true → inside n l ≡ true → holds rows n l ≡ true

-- the points below one were swept for a word of loans; `again` is true if a loan is new at a point that was passed
pub record IsSwept (edges : List Edge) (steps : List Step) (loans : List (ℕ × Loan)) (inside : ℕ → ℕ → Bool) (word point : ℕ) (again : Bool) (old new : List (List Bool)) : Type 0 where
  pub kept : (n l : ℕ) → holds old n l ≡ true → holds new n l ≡ true
  pub sound : ((n l : ℕ) → holds old n l ≡ true → WalksTo edges steps loans inside n l) → (n l : ℕ) → holds new n l ≡ true → WalksTo edges steps loans inside n l
  pub others : (n l : ℕ) → (l / 64 ≡ word → ⊥) → holds new n l ≡ holds old n l
  pub closed : again ≡ false → (m : ℕ) → m < point → IsClosed edges steps loans inside word new m
  pub progress : sum_by absent_count new ≤ sum_by absent_count old
  pub grown : again ≡ true → sum_by absent_count new < sum_by absent_count old

-- the loans of the first words walked, and the others are where they flow from the points that make them
pub record AreWalked (edges : List Edge) (steps : List Step) (loans : List (ℕ × Loan)) (inside : ℕ → ℕ → Bool) (word : ℕ) (rows : List (List Bool)) : Type 0 where
  pub done : (n l : ℕ) → l / 64 < word → (holds rows n l ≡ true) ↔ WalksTo edges steps loans inside n l
  pub rest : (n l : ℕ) → word ≤ l / 64 → (holds rows n l ≡ true) ↔ IsSeed edges steps loans inside n l
