use Rattle.bc_flow.proofs.Rows.{no_rows, no_sizes}
use Rattle.bc_judge.proofs.known.handed_on.Goals as goal

pub flow-requires-clause-kills : goal.flow-requires-clause-kills
flow-requires-clause-kills c = no_sizes _ c.in_ok-no_kills.no_kills c.in_ok-no_kills.ensures.rows

pub returns-clause-flow : goal.returns-clause-flow
returns-clause-flow c = rw (no_rows c.in_ok-no_kills.no_kills c.in_ok-no_kills.ensures.rows) at c.flow.ensures.flow
