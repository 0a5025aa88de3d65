use Rattle.bc_reasons.proofs.Cutting.{of_body}
use Rattle.bc_reasons.proofs.body.Demands.of.Goals as goal

pub returns-clause-constraints : goal.returns-clause-constraints
returns-clause-constraints c = rw c.in_ok-list.ensures (of_body c.args.typed.now c.args.requirements.now)
