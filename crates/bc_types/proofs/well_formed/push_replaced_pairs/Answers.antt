use Rattle.std.proofs.Common.{map, refl}
use Rattle.std.proofs.lemmas.List.{at_drop_more}
use Rattle.bc_types.specs.WellFormed.{replaced_pair}
use Rattle.bc_types.proofs.Appending.{appended-turn, appended-all}
use Rattle.bc_types.proofs.well_formed.push_replaced_pairs.Goals as goal

pub loop-pair-preserved : goal.loop-pair-preserved
loop-pair-preserved c =
    let each = map (replaced_pair c.args.arguments.now) in
    let grown = rw c.replaced_pair.ensures at c.in_ok-push.ensures.items in
    appended-turn each _ _ c.args.pairs.now c.loop-pair.pair-index _ _ grown (at_drop_more each _ _ _ c.loop-pair-test.true) c.loop-pair.invariant

pub returns : goal.returns
returns c =
    appended-all (map (replaced_pair c.args.arguments.now)) _ _ c.args.pairs.now c.loop-pair.pair-index c.loop-pair-test.false refl c.loop-pair.invariant
