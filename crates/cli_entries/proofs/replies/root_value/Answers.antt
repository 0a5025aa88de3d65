use Rattle.std.proofs.Common.{rules}
use Rattle.serde_json.specs.View.{view as data_of}
use Rattle.serde_json.specs.declared.value.Value.{the_lemmas}
use Rattle.cli_entries.proofs.replies.root_value.Goals as goal

pub returns : goal.returns
returns c = (data_of c.in_ok-outcome.outcome, c.in_ok-outcome.ensures, search (rules, the_lemmas))
