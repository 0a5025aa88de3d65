use Rattle.bc_outcomes.proofs.Local.{outcome_same}
use Rattle.bc_outcomes.proofs.laws.outcomes_are_local.Goals as goal

pub returns : goal.returns
returns c = outcome_same
