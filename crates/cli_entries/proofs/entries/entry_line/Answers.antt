use Rattle.std.proofs.Common.{◌∙◌}
use Rattle.std.proofs.lemmas.Result.{IfOk-weaker}
use Rattle.cli_entries.proofs.entries.entry_line.Goals as goal

pub returns : goal.returns
returns c =
    IfOk-weaker c.to_string.result _ _ (λ text written. written c.in_ok-value.ensures.0 ∙ c.in_ok-value.ensures.1) c.to_string.ensures.text
