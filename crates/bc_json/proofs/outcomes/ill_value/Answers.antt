use Rattle.std.proofs.Common.{rules}
use Rattle.serde_json.specs.declared.value.Value.{the_lemmas}
use Rattle.serde_json.proofs.OnLiterals.{serde_json_on_literals}
use Rattle.bc_json.proofs.Objects.{ill_text}
use Rattle.bc_json.proofs.outcomes.ill_value.Goals as goal

pub returns : goal.returns
unfolding serde_json_on_literals
returns c = ill_text _ c.args.name.now c.args.place.now (search (rules, the_lemmas))
