-- Nodes that are reachable from a node, and how handing a fact on changes the sets and the list of nodes to visit.
use Rattle.std.specs.Prelude.{◌≡◌, ℕ, ◌≤◌, ◌⊎◌, Bool, true, List}
use Rattle.std.specs.List.{Contains}
use Rattle.bc_flow.specs.declared.graph.Edge.{Edge}
use Rattle.bc_flow.specs.Graph.{HasEdge}
use Rattle.bc_flow.specs.Flow.{holds}
use Rattle.bc_flow.specs.Visit.{work_left}

-- a path of one edge or more leads from `start` to a node, its edges from nodes of `passes` into nodes of `enters`
pub data Reaches (edges : List Edge) (passes enters : ℕ → Bool) (start : ℕ) : ℕ → Type 0 where
  begins : (n : ℕ) → passes start ≡ true → HasEdge edges start n → enters n ≡ true → Reaches edges passes enters start n
  goes_on : (m n : ℕ) → Reaches edges passes enters start m → passes m ≡ true → HasEdge edges m n → enters n ≡ true → Reaches edges passes enters start n

-- the fact was handed on along the edges that leave `node`, into nodes of `enters`
pub record Spreads (edges : List Edge) (node fact : ℕ) (enters : ℕ → Bool) (old new : List (List Bool)) (old_pending pending : List ℕ) : Type 0 where
  pub others : (n f : ℕ) → (f ≡ fact → ⊥) → holds new n f ≡ holds old n f
  pub kept : (n : ℕ) → holds old n fact ≡ true → holds new n fact ≡ true
  pub spread : (n : ℕ) → HasEdge edges node n → enters n ≡ true → holds new n fact ≡ true
  pub no_more : (n : ℕ) → holds new n fact ≡ true → (holds old n fact ≡ true) ⊎ (HasEdge edges node n × (enters n ≡ true))
  pub pending_kept : (n : ℕ) → Contains old_pending n → Contains pending n
  pub pending_new : (n : ℕ) → holds new n fact ≡ true → (holds old n fact ≡ true) ⊎ Contains pending n
  pub pending_only : (n : ℕ) → Contains pending n → Contains old_pending n ⊎ (holds new n fact ≡ true)
  pub progress : work_left new pending ≤ work_left old old_pending
