use Rattle.std.proofs.Common.{Err, refl}
use Rattle.cli_check.proofs.Stopping.{stopped_end, handed_end}
use Rattle.cli_check.proofs.command.check_and_tell.Goals as goal

pub returns-in-Err-clause-ended : goal.returns-in-Err-clause-ended
returns-in-Err-clause-ended g c = stopped_end c.args.line.now _ _ _ _ _ _ c.in-Err.stop c.stop_with.result c.in-Err.ensures.stopped c.stop_with.ensures.status (rw c.file.ensures at c.stop_with.ensures.said)

pub returns-in-Err-clause-handed_on : goal.returns-in-Err-clause-handed_on
returns-in-Err-clause-handed_on g c empty = handed_end _ c.in-Err.stop (Err c.in-Err.stop) c.stop_with.result refl (c.in-Err.ensures.handed_on empty) c.stop_with.ensures.status
