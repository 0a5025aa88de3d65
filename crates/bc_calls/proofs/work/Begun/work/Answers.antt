use Rattle.bc_calls.proofs.Parts.{part_outcome}
use Rattle.bc_calls.proofs.work.Begun.work.Goals as goal

pub returns-clause-outcome : goal.returns-clause-outcome
returns-clause-outcome g c = λ name state part. part_outcome c.args.self name state c.in_ok-found.found.outcome part c.in_ok-found.ensures.outcome
