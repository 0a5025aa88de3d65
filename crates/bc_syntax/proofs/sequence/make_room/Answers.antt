use Rattle.std.proofs.Common.{arith}
use Rattle.std.proofs.lemmas.Result.{on_ok_weaker}
use Rattle.bc_syntax.proofs.sequence.make_room.Goals as goal

pub returns-clause-ok : goal.returns-clause-ok
returns-clause-ok g c = on_ok_weaker c.reserve.result (λ room. omega (arith, room)) c.reserve.ensures.ok
