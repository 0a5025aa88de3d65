-- The first shortest chains to one element: their lengths, and the step from each region to the next.
use Rattle.std.specs.Prelude.{◌≡◌, ℕ, zero, suc, ◌+◌, ◌<◌, ◌≤◌, ◌↔◌, Bool, true, List, [], ◌∷◌, length, slice_index}
use Rattle.bc_flow.specs.declared.graph.Edge.{Edge}
use Rattle.bc_flow.specs.Graph.{HasEdge}
use Rattle.bc_cons.specs.declared.facts.NumberedConstraint.{NumberedConstraint}
use Rattle.bc_flow.specs.Flow.{holds}
use Rattle.bc_cons.specs.Facts.{RegionFacts, MustOutlive}

-- the length of the shortest chain from each region to the element, or 0 if there is none: 1 if the region starts with the element,
-- otherwise one more than the least of the regions that it must outlive
pub record AreLengths (starts : ℕ → ℕ → Bool) (pairs : List NumberedConstraint) (element : ℕ) (lengths : List ℕ) : Type 0 where
  pub begins : (r : ℕ) → starts r element ≡ true → slice_index lengths r ≡ 1
  pub first : (r : ℕ) → slice_index lengths r ≡ 1 → starts r element ≡ true
  pub goes_on : (a : ℕ) → 1 < slice_index lengths a → (b : ℕ) × MustOutlive pairs a b × (slice_index lengths b + 1 ≡ slice_index lengths a)
  pub closed : (a b : ℕ) → MustOutlive pairs a b → 0 < slice_index lengths b → (0 < slice_index lengths a) × (slice_index lengths a ≤ slice_index lengths b + 1)

-- for each region with a chain of several regions, the least region that continues a shortest one
pub record AreSteps (LeadsOn : ℕ → ℕ → Type 0) (lengths steps : List ℕ) : Type 0 where
  pub leads : (a : ℕ) → 1 < slice_index lengths a → LeadsOn a (slice_index steps a) × (slice_index lengths (slice_index steps a) + 1 ≡ slice_index lengths a)
  pub least : (a b : ℕ) → 1 < slice_index lengths a → LeadsOn a b → slice_index lengths b + 1 ≡ slice_index lengths a → slice_index steps a ≤ b

-- the least known so far that continues a shortest chain; a step that is no region means that none is known
pub record AreStepsSoFar (LeadsOn : ℕ → ℕ → Type 0) (lengths steps : List ℕ) : Type 0 where
  pub count : length steps ≡ length lengths
  pub leads : (a : ℕ) → a < length lengths → slice_index steps a < length lengths → LeadsOn a (slice_index steps a) × (slice_index lengths (slice_index steps a) + 1 ≡ slice_index lengths a)
  pub least : (a b : ℕ) → 1 < slice_index lengths a → LeadsOn a b → slice_index lengths b + 1 ≡ slice_index lengths a → slice_index steps a ≤ b

-- an edge leads from b to a, and b is below this number
abbrev pub LeadsBelow : List Edge → ℕ → ℕ → ℕ → Type 0
LeadsBelow edges low a b = (b < low) × HasEdge edges b a

-- a shortest chain of the longer region continues with the shorter one
abbrev pub IsOnward : List ℕ → ℕ → ℕ → Type 0
IsOnward lengths longer shorter = (1 < slice_index lengths longer) × (slice_index lengths shorter + 1 ≡ slice_index lengths longer)

-- the edges lead from the shorter region of each constraint to the longer one
abbrev pub AreEdgesOf : List NumberedConstraint → List Edge → Type 0
AreEdgesOf pairs edges = (a b : ℕ) → HasEdge edges b a ↔ MustOutlive pairs a b

-- these are the lengths and steps of all regions, over the facts
pub record AreWays (facts : RegionFacts) (element : ℕ) (lengths steps : List ℕ) : Type 0 where
  pub length_count : length lengths ≡ length facts.starts
  pub step_count : length steps ≡ length facts.starts
  pub are_lengths : AreLengths (holds facts.starts) facts.pairs element lengths
  pub are_steps : AreSteps (MustOutlive facts.pairs) lengths steps

-- this number of regions along the steps
abbrev pub way : List ℕ → ℕ → ℕ → List ℕ
way steps zero r = []
way steps (suc k) r = r ∷ way steps k (slice_index steps r)
