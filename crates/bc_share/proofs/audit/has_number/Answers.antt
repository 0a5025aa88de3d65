use Rattle.bc_share.proofs.Closings.{number_missed}
use Rattle.bc_share.proofs.audit.has_number.Goals as goal

pub returns : goal.returns
returns g c = number_missed c.args.sessions.now c.args.number c.loop-session.session-index c.loop-session.invariant c.loop-session-test.false
