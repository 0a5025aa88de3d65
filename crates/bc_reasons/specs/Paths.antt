-- Paths from a point to a use of a local.
use Rattle.std.specs.Prelude.{◌≡◌, ℕ, ◌<◌, ◌⊎◌, Bool, false, not, ◌==◌, Option, Some, None, List, [], ◌∷◌, length, map, filter, slice_get}
use Rattle.std.specs.Option.{option_map_or}
use Rattle.bc_flow.specs.declared.graph.Edge.{Edge}
use Rattle.bc_flow.specs.Graph.{HasEdge}
use Rattle.bc_bodies.specs.declared.mir.Step.{Step}
use Rattle.bc_bodies.specs.Mir.{Mir, edges_of}
use Rattle.bc_points.specs.Accesses.{defines_of}
use Rattle.bc_points.specs.Points.{Uses, Defines}
use Rattle.bc_cons.specs.declared.facts.NumberedConstraint.{NumberedConstraint}
use Rattle.bc_solve.specs.Chains.{IsBefore}

-- a path that keeps the value of a local goes on along an edge: the first point does not define the local
abbrev pub GoesOn : Mir → ℕ → ℕ → ℕ → Type 0
GoesOn mir local a b = HasEdge (edges_of mir) a b × ¬ (Defines mir local a)

-- a path from a point to one that uses the local, of which no earlier point defines it (RFC 2094, "Liveness")
abbrev pub IsUsePath : Mir → ℕ → ℕ → List ℕ → Type 0
IsUsePath mir local point [] = ⊥
IsUsePath mir local point (a ∷ []) = (a ≡ point) × Uses mir local a
IsUsePath mir local point (a ∷ b ∷ rest) = (a ≡ point) × GoesOn mir local a b × IsUsePath mir local b (b ∷ rest)

-- the first of the shortest paths: any such path is longer, or has the same length and is not before it
pub record IsFirstUsePath (mir : Mir) (local point : ℕ) (path : List ℕ) : Type 0 where
  pub is_path : IsUsePath mir local point path
  pub first : (other : List ℕ) → IsUsePath mir local point other →
      (length path < length other) ⊎ ((length other ≡ length path) × ¬ (IsBefore other path))

-- ---- as chains

-- the local is this one
abbrev pub is_local : ℕ → Option ℕ → Bool
is_local local None = false
is_local local (Some other) = other == local

-- a point defines a local
abbrev pub defines : Mir → ℕ → ℕ → Bool
defines mir local point = option_map_or (λ (step : Step). is_local local (defines_of step.instruction)) (slice_get mir.steps point) false

-- an edge as a constraint between its points
abbrev pub link_of : Edge → NumberedConstraint
link_of edge = record { longer = edge.from; shorter = edge.to }

-- the edge does not leave a point that defines the local
abbrev pub keeps : Mir → ℕ → Edge → Bool
keeps mir local edge = not (defines mir local edge.from)

-- the edges along which a path that keeps the value of a local goes on, as constraints between points: so a path to a use is a chain
abbrev pub links_of : Mir → ℕ → List NumberedConstraint
links_of mir local = map link_of (filter (keeps mir local) (edges_of mir))
