use Rattle.std.proofs.Common.{◌≢◌, ℕ, ◌<◌, get_or}
use Rattle.bc_share.specs.Sessions.{SessionView}
use Rattle.bc_share.proofs.audit.has_number.Given as goal

abbrev pub invariant-loop-session : goal.invariant-loop-session
invariant-loop-session g l = (k : ℕ) (d : SessionView) → k < l.session-index → (get_or l.sessions k d).number ≢ l.number
