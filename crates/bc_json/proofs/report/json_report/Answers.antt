use Rattle.std.proofs.Common.{◌∙◌}
use Rattle.std.proofs.lemmas.Result.{IfOk-weaker}
use Rattle.bc_json.proofs.report.json_report.Goals as goal

pub returns : goal.returns
returns c =
    IfOk-weaker c.to_string.result _ _ (λ text written. written c.in_ok-line.ensures.0 ∙ c.in_ok-line.ensures.1) c.to_string.ensures.text
