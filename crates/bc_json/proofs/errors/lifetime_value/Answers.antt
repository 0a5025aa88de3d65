use Rattle.std.proofs.Common.{rules}
use Rattle.serde_json.specs.declared.value.Value.{the_lemmas}
use Rattle.serde_json.proofs.OnLiterals.{serde_json_on_literals}
use Rattle.bc_json.proofs.Objects.{lifetime_text}
use Rattle.bc_json.proofs.errors.lifetime_value.Goals as goal

pub returns : goal.returns
unfolding serde_json_on_literals
returns c = lifetime_text _ c.in_ok-chain.chain c.args.longer c.args.shorter c.args.chain.now c.in_ok-chain.ensures (search (rules, the_lemmas))
