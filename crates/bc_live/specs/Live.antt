-- Which locals are live on entry to which points.
use Rattle.std.specs.Prelude.{◌≡◌, ℕ, List, [], ◌∷◌, ◌++◌, Some, slice_get}
use Rattle.std.specs.List.{All}
use Rattle.bc_flow.specs.Graph.{IsPath}
use Rattle.bc_bodies.specs.Mir.{Mir, edges_of}
use Rattle.bc_points.specs.Points.{Uses, Defines}

-- the local is live on entry to the point: a path from the point ends in a point that uses the local, and no earlier point of that path
-- defines it (RFC 2094, "Liveness")
pub record IsLive (mir : Mir) (local point : ℕ) : Type 0 where
  pub earlier : List ℕ
  pub last : ℕ
  pub is_path : IsPath (edges_of mir) (earlier ++ last ∷ [])
  pub from_point : slice_get (earlier ++ last ∷ []) 0 ≡ Some point
  pub used : Uses mir local last
  pub undefined : All (λ p. ¬ (Defines mir local p)) earlier
