use Rattle.std.proofs.Common.{rules}
use Rattle.serde_json.specs.declared.value.Value.{the_lemmas}
use Rattle.bc_json.proofs.Objects.{word_text}
use Rattle.bc_json.proofs.errors.region_value.Goals as goal

pub returns : goal.returns
returns c = word_text _ c.args.region (search (rules, the_lemmas))
