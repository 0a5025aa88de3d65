use Rattle.std.proofs.Common.{◌≡◌}
use Rattle.bc_share.specs.Sessions.{new_sessions}
use Rattle.bc_share.proofs.db.seated.Given as goal

abbrev pub invariant-loop-number : goal.invariant-loop-number
invariant-loop-number g l = l.sessions.items ≡ new_sessions l.tag l.number
