use Rattle.std.proofs.Common.{map}
use Rattle.std.specs.List.{flat_map}
use Rattle.bc_judge.specs.Known.{edge_of, pair_edges}
use Rattle.bc_judge.proofs.Closure.{clauses_within, pairs_within, edges_within}
use Rattle.bc_judge.proofs.known.known_edges.Goals as goal

pub returns-clause-within : goal.returns-clause-within
returns-clause-within c =
    let count = c.args.typed.now.universals in
    let clauses = c.clauses.result.now in
    let pairs = c.in_ok-pairs.pairs.items in
    rw (c.in_ok-push_pair_edges.ensures, c.in_ok-edges.ensures, c.deref.ensures.value)
    (edges_within (map edge_of clauses) (flat_map pair_edges pairs) count (clauses_within clauses count c.clauses.ensures.declared) (pairs_within pairs count c.in_ok-pairs.ensures.declared))
