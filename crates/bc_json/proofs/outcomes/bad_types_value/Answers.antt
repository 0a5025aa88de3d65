use Rattle.std.proofs.Common.{rules}
use Rattle.serde_json.specs.declared.value.Value.{the_lemmas}
use Rattle.serde_json.proofs.OnLiterals.{serde_json_on_literals}
use Rattle.bc_json.proofs.Objects.{bad_types_text}
use Rattle.bc_json.proofs.outcomes.bad_types_value.Goals as goal

pub returns : goal.returns
unfolding serde_json_on_literals
returns c = bad_types_text _ c.args.index (search (rules, the_lemmas))
