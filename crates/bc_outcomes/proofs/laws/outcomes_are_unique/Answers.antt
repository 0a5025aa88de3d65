use Rattle.bc_outcomes.proofs.Unique.{one_outcome}
use Rattle.bc_outcomes.proofs.laws.outcomes_are_unique.Goals as goal

pub returns : goal.returns
returns c = one_outcome
