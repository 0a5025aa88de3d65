use Rattle.cli_program.proofs.Stopping.{check_unopened}
use Rattle.cli_program.proofs.obeying.obey_check.Goals as goal

pub returns-in-Err-clause-ended : goal.returns-in-Err-clause-ended
returns-in-Err-clause-ended g c = check_unopened c.args.check.now _ _ _ _ c.stop_with.result c.stop_with.ensures.status (rw c.file-in-Err.ensures at c.stop_with.ensures.said)
