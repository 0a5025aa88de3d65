-- When no breach is found.
use Rattle.std.proofs.Common.{◌≡◌, Bool, ◌&&◌, not, is_some, Option, Some, None, refl}
use Rattle.bc_breaches.specs.Firsts.{first_of}

-- nothing is found
abbrev pub clear : {X : Type 0} → Option X → Bool
clear found = not (is_some found)

-- nothing is found of two if it is of neither
pub clear_first : {X : Type 0} (one other : Option X) → clear (first_of one other) ≡ (clear one && clear other)
clear_first None other = refl
clear_first (Some found) other = refl
