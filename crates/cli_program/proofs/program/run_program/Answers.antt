use Rattle.cli_program.proofs.Telling.{words_kept}
use Rattle.cli_program.proofs.program.run_program.Goals as goal

pub returns-clause-ended : goal.returns-clause-ended
returns-clause-ended g c = words_kept _ _ _ _ _ _ _ _ _ c.hand_on_told.result c.hand_on_told.ensures.same c.hand_on_told.ensures.kept c.in_ok-status.ensures.ended
