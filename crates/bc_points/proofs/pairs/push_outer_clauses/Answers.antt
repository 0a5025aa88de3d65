use Rattle.std.proofs.Common.{refl, arith}
use Rattle.std.proofs.lemmas.Grind.{common_steps}
use Rattle.bc_types.proofs.Appending.{appended-all}
use Rattle.bc_bodies.specs.Children.{is_outer_clause}
use Rattle.bc_points.specs.Pairs.{clauses_where}
use Rattle.bc_points.proofs.pairs.push_outer_clauses.Goals as goal

pub loop-clause-preserved : goal.loop-clause-preserved
loop-clause-preserved c = grind (arith, common_steps)

pub returns : goal.returns
returns c =
    appended-all (clauses_where (is_outer_clause c.args.captures.now) c.args.arguments.now) _ _ c.args.clauses.now c.loop-clause.clause-index c.loop-clause-test.false refl c.loop-clause.invariant
