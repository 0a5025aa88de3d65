use Rattle.bc_flow.specs.Flow.{holds}
use Rattle.bc_solve.specs.Values.{IsInValue}
use Rattle.bc_solve.proofs.Telling.{told}
use Rattle.bc_analyses.proofs.find_values.Goals as goal

pub returns : goal.returns
returns c = told (holds c.in_ok-values.values) (IsInValue (holds c.args.facts.now.starts) c.args.facts.now.pairs) c.in_ok-values.ensures.values
