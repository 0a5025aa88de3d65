use Rattle.std.proofs.Common.{◌≡◌, ◌++◌, drop}
use Rattle.bc_bodies.specs.Children.{is_outer_clause}
use Rattle.bc_points.specs.Pairs.{clauses_where}
use Rattle.bc_points.proofs.pairs.push_outer_clauses.Given as goal

abbrev pub invariant-loop-clause : goal.invariant-loop-clause
invariant-loop-clause l =
    l.constraints.items ++ clauses_where (is_outer_clause l.captures) l.arguments (drop l.clause-index l.clauses)
    ≡ l.initial.constraints.items ++ clauses_where (is_outer_clause l.captures) l.arguments l.clauses
