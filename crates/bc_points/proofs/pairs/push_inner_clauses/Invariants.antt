use Rattle.std.proofs.Common.{◌≡◌, ◌++◌, drop}
use Rattle.bc_points.specs.Pairs.{is_inner_clause, clauses_where}
use Rattle.bc_points.proofs.pairs.push_inner_clauses.Given as goal

abbrev pub invariant-loop-clause : goal.invariant-loop-clause
invariant-loop-clause l =
    l.constraints.items ++ clauses_where (is_inner_clause l.header) l.arguments (drop l.clause-index l.clauses)
    ≡ l.initial.constraints.items ++ clauses_where (is_inner_clause l.header) l.arguments l.clauses
