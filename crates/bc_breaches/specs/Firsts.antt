-- The first breach that is found.
use Rattle.std.specs.Prelude.{Option, Some, None}

-- the first of two, if there is one
abbrev pub first_of : {X : Type 0} → Option X → Option X → Option X
first_of None other = other
first_of (Some found) other = Some found
