use Rattle.cli_program.proofs.Telling.{line_kept}
use Rattle.cli_program.proofs.obeying.obey_line.Goals as goal

pub returns-clause-ended : goal.returns-clause-ended
returns-clause-ended g c = line_kept _ _ c.args.line.now _ _ _ _ _ _ c.hand_on_told.result c.hand_on_told.ensures.same c.hand_on_told.ensures.kept c.in_ok-status.ensures.ended
