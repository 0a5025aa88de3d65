use Rattle.std.proofs.Common.{map, refl}
use Rattle.std.proofs.lemmas.List.{at_drop_more}
use Rattle.bc_types.proofs.Appending.{appended-turn, appended-all}
use Rattle.bc_points.specs.Pairs.{replaced_clause}
use Rattle.bc_points.proofs.pairs.push_clauses.Goals as goal

pub loop-clause-preserved : goal.loop-clause-preserved
loop-clause-preserved c =
    let each = map (replaced_clause c.args.arguments.now) in
    appended-turn each _ _ c.args.clauses.now c.loop-clause.clause-index _ _ c.in_ok-push_clause.ensures (at_drop_more each _ _ _ c.loop-clause-test.true) c.loop-clause.invariant

pub returns : goal.returns
returns c =
    appended-all (map (replaced_clause c.args.arguments.now)) _ _ c.args.clauses.now c.loop-clause.clause-index c.loop-clause-test.false refl c.loop-clause.invariant
