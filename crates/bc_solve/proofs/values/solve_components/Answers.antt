use Rattle.std.proofs.Common.{length}
use Rattle.bc_solve.proofs.Least.{edges_within, flow_is_value}
use Rattle.bc_solve.proofs.values.solve_components.Goals as goal

pub flow_by_groups-requires-clause-edges : goal.flow_by_groups-requires-clause-edges
flow_by_groups-requires-clause-edges c =
    rw (c.deref.ensures.value, c.in_ok-edges.ensures, c.pairs.ensures.pairs, c.starts.ensures.starts)
    (edges_within c.args.facts.now.pairs (length c.args.facts.now.starts) c.pairs.ensures.within)

pub returns-clause-values : goal.returns-clause-values
returns-clause-values c =
    flow_is_value c.args.facts.now.starts c.args.facts.now.pairs c.in_ok-values.values
    (rw (c.deref.ensures.value, c.in_ok-edges.ensures, c.pairs.ensures.pairs, c.starts.ensures.starts) at c.in_ok-values.ensures.flow)
