use Rattle.std.proofs.Common.{length}
use Rattle.bc_solve.proofs.Least.{edge_is_pair, edges_within}
use Rattle.bc_solve.proofs.explainer.Explainer.new.Goals as goal

pub edge_chains-requires : goal.edge_chains-requires
edge_chains-requires c =
    rw (c.deref.ensures.value, c.in_ok-edges.ensures, c.pairs.ensures.pairs, c.regions.ensures)
    (edges_within c.args.facts.now.pairs (length c.args.facts.now.starts) c.pairs.ensures.within)

pub invariant_of-result : goal.invariant_of-result
invariant_of-result c =
    let edges = rw c.pairs.ensures.pairs at c.in_ok-edges.ensures in
    record {
      are_edges = rw edges (edge_is_pair c.args.facts.now.pairs);
      within = rw edges (edges_within c.args.facts.now.pairs (length c.args.facts.now.starts) c.pairs.ensures.within);
      are_chains = rw (c.deref.ensures.value, c.regions.ensures) at c.in_ok-chains.ensures;
      keeps = tt;
    }
