use Rattle.std.proofs.Common.{rules}
use Rattle.serde_json.specs.declared.value.Value.{the_lemmas}
use Rattle.serde_json.proofs.OnLiterals.{serde_json_on_literals}
use Rattle.bc_json.proofs.Objects.{conflict_text}
use Rattle.bc_json.proofs.errors.conflict_value.Goals as goal

pub returns : goal.returns
unfolding serde_json_on_literals
returns c = conflict_text _ c.in_ok-chain.chain c.args.at c.args.access c.args.loan c.args.chain.now c.in_ok-chain.ensures (search (rules, the_lemmas))
