use Rattle.std.proofs.Common.{map, subst, ◌∙◌, rules}
use Rattle.serde_json.specs.declared.value.Value.{the_lemmas}
use Rattle.serde_json.proofs.OnLiterals.{serde_json_on_literals}
use Rattle.bc_json.specs.Texts.{HasText, array_text}
use Rattle.bc_json.specs.Json.{error_json}
use Rattle.bc_json.proofs.Objects.{body_text}
use Rattle.bc_json.proofs.outcomes.body_value.Goals as goal

pub returns : goal.returns
unfolding serde_json_on_literals
returns c = body_text _ c.in_ok-errors.errors c.args.body.now (subst (λ xs. HasText c.in_ok-errors.errors (array_text (map error_json xs))) (c.as_slice.ensures ∙ c.get.ensures) c.in_ok-errors.ensures) (search (rules, the_lemmas))
