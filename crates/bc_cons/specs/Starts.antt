-- The elements that each region starts with. Regions are numbers, the universal ones first. Elements are numbers: the points, and then the
-- ends of the universal regions.
use Rattle.std.specs.Prelude.{◌≡◌, ℕ, ◌+◌, Bool, not, ◌&&◌, ◌||◌, ◌==◌, nat_lt, if◌then◌else◌, List, length}
use Rattle.std.specs.List.{list_any, enumerate_from}
use Rattle.bc_syntax.specs.declared.syntax.Ty.{Ty}
use Rattle.bc_syntax.specs.declared.syntax.Region.{Region}
use Rattle.bc_flow.specs.BitSet.{has}
use Rattle.bc_flow.specs.Flow.{row, holds}
use Rattle.bc_bodies.specs.Mir.{Mir}
use Rattle.bc_points.specs.Regions.{region_number}
use Rattle.bc_types.specs.Mentions.{regions_of}

-- a universal region starts with all points and its own end, and `'static` with all ends
abbrev pub universal_start : ℕ → ℕ → ℕ → ℕ → Bool
universal_start universals points region element =
    nat_lt element points || (element == points + region || (region == 0 && nat_lt element (points + universals)))

-- the region occurs in the type
abbrev pub mentions : ℕ → ℕ → Ty → Bool
mentions universals region ty = list_any (λ (other : Region). region_number universals other == region) (regions_of ty)

-- a variable starts with a point if a local is live on entry to it that has the variable in its type
abbrev pub variable_start : ℕ → List Ty → (ℕ → ℕ → Bool) → ℕ → ℕ → Bool
variable_start universals locals live region point =
    list_any (λ (here : ℕ × Ty). mentions universals region here.1 && live here.0 point) (enumerate_from 0 locals)

-- the region starts with the element; `live` says on entry to which points each local is live (RFC 2094, "Liveness")
abbrev pub starts_with : Mir → (ℕ → ℕ → Bool) → ℕ → ℕ → Bool
starts_with mir live region element =
    if nat_lt region mir.universals
    then universal_start mir.universals (length mir.steps) region element
    else (nat_lt element (length mir.steps) && variable_start mir.universals mir.locals live region element)

-- the region is a variable, and the set has the point
abbrev pub goes_to_variable : ℕ → ℕ → List Bool → ℕ → ℕ → Bool
goes_to_variable universals points set region point = not (nat_lt region universals) && (nat_lt point points && has set point)

-- elements were added to the rows, and nothing else changed
pub record AreGrown (old new : List (List Bool)) (added : ℕ → ℕ → Bool) : Type 0 where
  pub rows : length new ≡ length old
  pub sizes : (r : ℕ) → length (row new r) ≡ length (row old r)
  pub members : (r e : ℕ) → holds new r e ≡ (holds old r e || added r e)
