use Rattle.std.proofs.Common.{◌∙◌}
use Rattle.cli_check.specs.Run.{shown}
use Rattle.cli_check.proofs.Performing.{always_refused}
use Rattle.cli_check.proofs.Begun.{asked_ahead, part_ahead, part_none}
use Rattle.cli_check.proofs.ahead.ask_ahead.Goals as goal

pub returns-in_err-asks-clause-refused : goal.returns-in_err-asks-clause-refused
returns-in_err-asks-clause-refused g c = always_refused _ (part_none _ (shown c.args.asking.now.form.now) _ _ _ c.in_err-asks.ensures.kept)

pub returns-clause-performed : goal.returns-clause-performed
returns-clause-performed g c =
    asked_ahead _ _ (shown c.args.asking.now.form.now) _ _ _ _ _ c.settle_asks.result c.in_ok-asks.ensures.asks c.in_ok-asks.ensures.kept c.settle_asks.ensures.performed

pub returns-clause-refused : goal.returns-clause-refused
returns-clause-refused g c =
    part_ahead _ _ (shown c.args.asking.now.form.now) _ _ _ _ _ c.settle_asks.result c.in_ok-asks.ensures.asks c.in_ok-asks.ensures.kept c.settle_asks.ensures.refused

pub returns-clause-still : goal.returns-clause-still
returns-clause-still g c = (c.settle_asks.ensures.still.0 ∙ c.in_ok-asks.ensures.kept.tag, c.settle_asks.ensures.still.1 ∙ c.in_ok-asks.ensures.kept.number)
