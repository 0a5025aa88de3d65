use Rattle.std.proofs.Common.{rules}
use Rattle.serde_json.specs.declared.value.Value.{the_lemmas}
use Rattle.serde_json.proofs.OnLiterals.{serde_json_on_literals}
use Rattle.bc_json.proofs.Objects.{report_text}
use Rattle.bc_json.proofs.outcomes.report_value.Goals as goal

pub returns : goal.returns
unfolding serde_json_on_literals
returns c = report_text _ c.in_ok-bodies.bodies c.args.bodies.now c.in_ok-bodies.ensures (search (rules, the_lemmas))
