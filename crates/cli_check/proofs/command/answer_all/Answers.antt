use Rattle.cli_check.proofs.Handing.{handed_performed, handed_part}
use Rattle.cli_check.proofs.command.answer_all.Goals as goal

pub returns-clause-performed : goal.returns-clause-performed
returns-clause-performed g c = handed_performed _ _ _ _ _ _ _ _ _ c.hand_on.ensures.asked c.ask_names-asked.ensures.performed c.hand_on.ensures.kept

pub returns-clause-refused : goal.returns-clause-refused
returns-clause-refused g c = handed_part _ _ _ _ _ _ _ _ _ c.hand_on.ensures.asked c.ask_names-asked.ensures.refused c.hand_on.ensures.kept
