use Rattle.bc_calls.proofs.Equality.{event}
use Rattle.bc_calls.proofs.call.Event.is.Goals as goal

pub returns : goal.returns
returns c = rw c.eq.ensures (event c.args.self.now c.args.other.now)
