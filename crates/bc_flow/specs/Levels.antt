-- A breadth-first search. The level of a node is 1 for a source, one more for each edge on a shortest path from a source, and 0 for a node
-- that was not reached.
use Rattle.std.specs.Prelude.{◌≡◌, ℕ, ◌+◌, ◌<◌, ◌≤◌, ◌⊎◌, Bool, ◌==◌, List, length, count_by, slice_index}
use Rattle.std.specs.List.{Contains}
use Rattle.bc_flow.specs.declared.graph.Edge.{Edge}
use Rattle.bc_flow.specs.Graph.{HasEdge}

-- the level of each node is the number of nodes on a shortest path to it from a source, or 0 if there is no path
pub record AreLevels (edges : List Edge) (sources levels : List ℕ) : Type 0 where
  pub begins : (n : ℕ) → Contains sources n → slice_index levels n ≡ 1
  pub first : (n : ℕ) → slice_index levels n ≡ 1 → Contains sources n
  pub goes_on : (n : ℕ) → 1 < slice_index levels n → (m : ℕ) × HasEdge edges m n × (slice_index levels m + 1 ≡ slice_index levels n)
  pub closed : (m n : ℕ) → HasEdge edges m n → 0 < slice_index levels m → (0 < slice_index levels n) × (slice_index levels n ≤ slice_index levels m + 1)

-- ---- in progress

-- a node of this level was not reached
abbrev pub is_unreached : ℕ → Bool
is_unreached level = level == 0

-- how many nodes were not reached
abbrev pub unreached : List ℕ → ℕ
unreached levels = count_by is_unreached levels

-- an edge leads to node n from one of these
abbrev pub IsSuccessor : List Edge → List ℕ → ℕ → Type 0
IsSuccessor edges nodes n = (m : ℕ) × Contains nodes m × HasEdge edges m n

-- each target that was not reached before got this level and was listed, and nothing else changed
pub record GivesLevel (IsTarget : ℕ → Type 0) (level : ℕ) (old new old_found found : List ℕ) : Type 0 where
  pub kept : (n : ℕ) → 0 < slice_index old n → slice_index new n ≡ slice_index old n
  pub passed : (n : ℕ) → IsTarget n → 0 < slice_index new n
  pub changed : (n : ℕ) → (slice_index new n ≡ slice_index old n) ⊎ (IsTarget n × (slice_index new n ≡ level) × Contains found n)
  pub found_kept : (n : ℕ) → Contains old_found n → Contains found n
  pub found_new : (n : ℕ) → Contains found n → Contains old_found n ⊎ (slice_index new n ≡ level)
  pub counted : unreached new + length found ≡ unreached old + length old_found

-- the search has found the nodes up to this level, and `front` lists those at it
pub record AreLevelsUpTo (edges : List Edge) (sources : List ℕ) (level : ℕ) (levels front : List ℕ) : Type 0 where
  pub onward : 0 < level
  pub deep : (n : ℕ) → slice_index levels n ≤ level
  pub begins : (n : ℕ) → Contains sources n → slice_index levels n ≡ 1
  pub first : (n : ℕ) → slice_index levels n ≡ 1 → Contains sources n
  pub goes_on : (n : ℕ) → 1 < slice_index levels n → (m : ℕ) × HasEdge edges m n × (slice_index levels m + 1 ≡ slice_index levels n)
  pub listed : (n : ℕ) → slice_index levels n ≡ level → Contains front n
  pub at_level : (n : ℕ) → Contains front n → slice_index levels n ≡ level
  pub closed : (m n : ℕ) → HasEdge edges m n → 0 < slice_index levels m → slice_index levels m < level → (0 < slice_index levels n) × (slice_index levels n ≤ slice_index levels m + 1)
