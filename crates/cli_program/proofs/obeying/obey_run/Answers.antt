use Rattle.cli_program.proofs.Stopping.{run_unopened}
use Rattle.cli_program.proofs.obeying.obey_run.Goals as goal

pub returns-in-Err-clause-ended : goal.returns-in-Err-clause-ended
returns-in-Err-clause-ended g c = run_unopened c.args.run.now _ _ _ _ c.stop_with.result c.stop_with.ensures.status (rw c.file-in-Err.ensures at c.stop_with.ensures.said)
