use Rattle.std.proofs.Common.{◌∙◌}
use Rattle.cli_check.proofs.Performing.{same_refused, same_stop}
use Rattle.cli_check.proofs.Ending.{performed_all, first_changes, first_asks}
use Rattle.cli_check.proofs.command.make_all.Goals as goal

pub returns-clause-performed : goal.returns-clause-performed
returns-clause-performed g c = rw c.max.ensures (performed_all c.args.asking.now.form.now c.args.changes.items c.args.asking.now.names.now.keys _ _ _ _ _ _ _ _ _ c.in_ok-changed.ensures.performed c.in_ok-asked.ensures.performed)

pub returns-clause-still : goal.returns-clause-still
returns-clause-still g c = (c.in_ok-asked.ensures.still.0 ∙ c.in_ok-changed.ensures.still.0, c.in_ok-asked.ensures.still.1 ∙ c.in_ok-changed.ensures.still.1)

pub returns-in_err-changed-clause-refused : goal.returns-in_err-changed-clause-refused
returns-in_err-changed-clause-refused g c =
    same_refused c.from_residual.result c.in_err-changed.field-0.0 c.from_residual.ensures.1 (λ e. first_changes c.args.asking.now.form.now c.args.changes.items c.args.asking.now.names.now.keys _ _ _ _ _ (c.in_err-changed.ensures.refused e))

pub returns-in_err-changed-clause-untold : goal.returns-in_err-changed-clause-untold
returns-in_err-changed-clause-untold g c e = c.in_err-changed.ensures.untold (same_stop _ _ _ c.from_residual.ensures.1 e)

pub returns-in_err-asked-clause-refused : goal.returns-in_err-asked-clause-refused
returns-in_err-asked-clause-refused g c =
    same_refused c.from_residual-in_err-asked.result c.in_err-asked.field-0.0 c.from_residual-in_err-asked.ensures.1 (λ e. first_asks c.args.asking.now.form.now c.args.changes.items c.args.asking.now.names.now.keys _ _ _ _ _ _ _ _ c.in_ok-changed.ensures.performed (c.in_err-asked.ensures.refused e))

pub returns-in_err-asked-clause-still : goal.returns-in_err-asked-clause-still
returns-in_err-asked-clause-still g c = (c.in_err-asked.ensures.still.0 ∙ c.in_ok-changed.ensures.still.0, c.in_err-asked.ensures.still.1 ∙ c.in_ok-changed.ensures.still.1)

pub returns-in_err-asked-clause-unwritten : goal.returns-in_err-asked-clause-unwritten
returns-in_err-asked-clause-unwritten g c e = record { exit = _; between = _; performed = c.in_ok-changed.ensures.performed }
