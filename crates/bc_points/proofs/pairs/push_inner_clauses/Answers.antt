use Rattle.std.proofs.Common.{refl, arith}
use Rattle.std.proofs.lemmas.Grind.{common_steps}
use Rattle.bc_types.proofs.Appending.{appended-all}
use Rattle.bc_points.specs.Pairs.{is_inner_clause, clauses_where}
use Rattle.bc_points.proofs.pairs.push_inner_clauses.Goals as goal

pub loop-clause-preserved : goal.loop-clause-preserved
loop-clause-preserved c = grind (arith, common_steps)

pub returns : goal.returns
returns c =
    appended-all (clauses_where (is_inner_clause c.args.header.now) c.args.arguments.now) _ _ c.args.clauses.now c.loop-clause.clause-index c.loop-clause-test.false refl c.loop-clause.invariant
