use Rattle.cli_program.proofs.Opening.{print_opened}
use Rattle.cli_program.proofs.Stopping.{print_unopened}
use Rattle.cli_program.proofs.printing.obey_print.Goals as goal

pub returns-in-Ok-clause-ended : goal.returns-in-Ok-clause-ended
returns-in-Ok-clause-ended g c =
    print_opened c.args.print.now _ _ _ _ _ _ c.print_and_tell.result (rw c.file.ensures at c.in-Ok.ensures) c.print_and_tell.ensures.ended

pub returns-in-Err-clause-ended : goal.returns-in-Err-clause-ended
returns-in-Err-clause-ended g c = print_unopened c.args.print.now _ _ _ _ c.stop_with.result c.stop_with.ensures.status (rw c.file-in-Err.ensures at c.stop_with.ensures.said)
