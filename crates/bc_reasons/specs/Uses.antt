-- Why a region is in use at a point.
use Rattle.std.specs.Prelude.{◌≡◌, ℕ, ◌<◌, ◌≤◌, ◌↔◌, Bool, true, false, List, slice_get}
use Rattle.std.specs.Option.{option_map_or}
use Rattle.bc_bodies.specs.Mir.{Mir}
use Rattle.bc_live.specs.Live.{IsLive}
use Rattle.bc_cons.specs.Starts.{mentions}
use Rattle.bc_reasons.specs.declared.in_use.UseReason.{UseReason}
use Rattle.bc_reasons.specs.declared.in_use.UseReason.TheVariants.{Universal, Live}
use Rattle.bc_reasons.specs.Paths.{IsFirstUsePath}

-- the type of a local has the region
abbrev pub has_region : Mir → ℕ → ℕ → Bool
has_region mir region local = option_map_or (mentions mir.universals region) (slice_get mir.locals local) false

-- of the locals with the region in their types, none below this number is live on entry to the point
abbrev pub AreDeadBelow : Mir → ℕ → ℕ → ℕ → Type 0
AreDeadBelow mir region point count = (local : ℕ) → local < count → has_region mir region local ≡ true → ¬ (IsLive mir local point)

-- a variable that is in use at a point: the least local with the region in its type that is live there, and the first of the shortest paths
-- from the point to a use of that local (RFC 2094, "Liveness")
pub record IsLeastUse (mir : Mir) (region point local : ℕ) (path : List ℕ) : Type 0 where
  pub variable : mir.universals ≤ region
  pub mentioned : has_region mir region local ≡ true
  pub is_path : IsFirstUsePath mir local point path
  pub least : AreDeadBelow mir region point local

-- the reason why a region is in use at a point: it is universal, or a local with the region in its type is live there
abbrev pub IsUseReason : Mir → ℕ → ℕ → UseReason → Type 0
IsUseReason mir region point Universal = region < mir.universals
IsUseReason mir region point (Live local path) = IsLeastUse mir region point local path

-- a region that is not in use at a point: a variable, and no local with it in its type is live there
pub record IsUnused (mir : Mir) (region point : ℕ) : Type 0 where
  pub variable : mir.universals ≤ region
  pub dead : (local : ℕ) → has_region mir region local ≡ true → ¬ (IsLive mir local point)

-- a test is true of a local and a point exactly if the local is live on entry to the point
abbrev pub TellsLive : Mir → (ℕ → ℕ → Bool) → Type 0
TellsLive mir live = (local point : ℕ) → (live local point ≡ true) ↔ IsLive mir local point
