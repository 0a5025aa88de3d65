use Rattle.bc_outcomes.proofs.Used.{outcome_used}
use Rattle.bc_outcomes.proofs.laws.outcomes_rest_on_used_names.Goals as goal

pub returns : goal.returns
returns c = outcome_used
