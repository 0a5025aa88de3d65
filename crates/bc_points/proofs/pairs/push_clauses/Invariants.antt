use Rattle.std.proofs.Common.{◌≡◌, ◌++◌, drop, map}
use Rattle.bc_points.specs.Pairs.{replaced_clause}
use Rattle.bc_points.proofs.pairs.push_clauses.Given as goal

abbrev pub invariant-loop-clause : goal.invariant-loop-clause
invariant-loop-clause l =
    l.constraints.items ++ map (replaced_clause l.arguments) (drop l.clause-index l.clauses)
    ≡ l.initial.constraints.items ++ map (replaced_clause l.arguments) l.clauses
