use Rattle.bc_reasons.proofs.Lets.{before_lets, with_lets}
use Rattle.bc_reasons.proofs.body.first_let.Goals as goal

pub returns-clause-value : goal.returns-clause-value
returns-clause-value c = rw c.inputs.ensures.value (before_lets c.args.typed.now c.inputs.ensures.typed)

pub returns-clause-within : goal.returns-clause-within
returns-clause-within c = rw (c.inputs.ensures.value, before_lets c.args.typed.now c.inputs.ensures.typed) (with_lets c.args.typed.now c.inputs.ensures.typed)
