-- Sessions that stay the same.
use Rattle.std.specs.Prelude.{◌≡◌}
use Rattle.bc_share.specs.Sessions.{SessionView}

-- it is the same session, whatever calls it made
abbrev pub IsStill : SessionView → SessionView → Type 0
IsStill old new = (new.tag ≡ old.tag) × (new.number ≡ old.number)
