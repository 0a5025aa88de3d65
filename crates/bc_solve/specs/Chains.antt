-- Why an element is in the value of a region: chains of constraints down to a region that starts with the element.
use Rattle.std.specs.Prelude.{◌≡◌, ℕ, ◌<◌, ◌⊎◌, Bool, true, List, [], ◌∷◌, length, map}
use Rattle.bc_syntax.specs.declared.syntax.Region.{Region}
use Rattle.bc_flow.specs.Flow.{holds}
use Rattle.bc_points.specs.Regions.{region_of_number}
use Rattle.bc_cons.specs.declared.facts.NumberedConstraint.{NumberedConstraint}
use Rattle.bc_cons.specs.Facts.{RegionFacts, MustOutlive}
use Rattle.bc_solve.specs.Values.{IsInValue}

-- a chain from a region to an element: a list of regions that begins with the region, in which each must outlive the next, and whose last
-- starts with the element
abbrev pub IsChain : (ℕ → ℕ → Bool) → List NumberedConstraint → ℕ → ℕ → List ℕ → Type 0
IsChain starts pairs region element [] = ⊥
IsChain starts pairs region element (a ∷ []) = (a ≡ region) × (starts a element ≡ true)
IsChain starts pairs region element (a ∷ b ∷ rest) = (a ≡ region) × MustOutlive pairs a b × IsChain starts pairs b element (b ∷ rest)

-- one list is before another: at the first place where they differ, it has the smaller number
abbrev pub IsBefore : List ℕ → List ℕ → Type 0
IsBefore [] others = ⊥
IsBefore (a ∷ rest) [] = ⊥
IsBefore (a ∷ rest) (b ∷ others) = (a < b) ⊎ ((a ≡ b) × IsBefore rest others)

-- the first of the shortest chains: any chain is longer, or has the same length and is not before it
pub record IsFirstShortest (starts : ℕ → ℕ → Bool) (pairs : List NumberedConstraint) (region element : ℕ) (chain : List ℕ) : Type 0 where
  pub is_chain : IsChain starts pairs region element chain
  pub first : (other : List ℕ) → IsChain starts pairs region element other →
      (length chain < length other) ⊎ ((length other ≡ length chain) × ¬ (IsBefore other chain))

-- the regions explain why an element is in the value of a region: by their numbers, they are the first of the shortest chains over these
-- start elements and constraints
abbrev pub ExplainsOver : ℕ → (ℕ → ℕ → Bool) → List NumberedConstraint → ℕ → ℕ → List Region → Type 0
ExplainsOver universals starts pairs region element chain =
    (numbers : List ℕ) × IsFirstShortest starts pairs region element numbers × (chain ≡ map (region_of_number universals) numbers)

-- the regions explain why an element is in the value of a region, over the start elements and the constraints of facts
abbrev pub Explains : RegionFacts → ℕ → ℕ → List Region → Type 0
Explains facts region element chain = ExplainsOver facts.universals (holds facts.starts) facts.pairs region element chain

-- the function gives the first shortest chain from each region to each element of its value
abbrev pub TellsChains : RegionFacts → (ℕ → ℕ → List Region) → Type 0
TellsChains facts chain =
    (region element : ℕ) → IsInValue (holds facts.starts) facts.pairs region element → Explains facts region element (chain region element)
