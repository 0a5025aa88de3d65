use Rattle.std.proofs.Common.{rules}
use Rattle.serde_json.specs.declared.value.Value.{the_lemmas}
use Rattle.serde_json.proofs.OnLiterals.{serde_json_on_literals}
use Rattle.bc_json.proofs.Objects.{line_text}
use Rattle.bc_json.proofs.report.line_value.Goals as goal

pub returns : goal.returns
unfolding serde_json_on_literals
returns c = line_text _ c.in_ok-outcome.outcome c.args.name.now c.args.outcome.now c.in_ok-outcome.ensures (search (rules, the_lemmas))
