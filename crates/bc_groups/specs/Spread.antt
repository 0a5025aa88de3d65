-- A search that goes on from one root after another.
use Rattle.std.specs.Prelude.{◌≡◌, ℕ, ◌+◌, ◌<◌, not, List, length, slice_index, count_by}
use Rattle.std.specs.List.{All}
use Rattle.bc_flow.specs.declared.graph.Edge.{Edge}
use Rattle.bc_flow.specs.Graph.{Leads}
use Rattle.bc_groups.specs.declared.components.Spread.{Spread}

-- the search knows for each node one from which it is reachable
pub record IsSpread (edges : List Edge) (nodes : ℕ) (spread : Spread) : Type 0 where
  pub marks : length spread.reached.items ≡ nodes
  pub owner_count : length spread.owners.items ≡ nodes
  pub within : All (λ n. n < nodes) spread.owners.items
  pub led : (n : ℕ) → n < nodes → Leads edges (slice_index spread.owners.items n) n

-- each node whose edges are still to be followed is reachable from the root
abbrev pub AreOpened : List Edge → ℕ → ℕ → List ℕ → Type 0
AreOpened edges nodes root opened = All (λ n. (n < nodes) × Leads edges root n) opened

-- what decreases with each node whose edges were followed: the unreached and the opened nodes
abbrev pub spread_work : Spread → ℕ
spread_work spread = count_by not spread.reached.items + length spread.opened.items
