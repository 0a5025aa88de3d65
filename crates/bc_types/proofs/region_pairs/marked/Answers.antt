use Rattle.bc_types.proofs.Marking.{marked-more}
use Rattle.std.proofs.lemmas.List.{take_all}
use Rattle.bc_types.proofs.region_pairs.marked.Goals as goal

pub loop-pair-preserved : goal.loop-pair-preserved
loop-pair-preserved c = marked-more c.args.count c.args.pairs.now c.loop-pair.pair-index _ _ _ c.loop-pair-test.true c.loop-pair.invariant c.mark.ensures

pub returns : goal.returns
returns c = rw (take_all _ _ c.loop-pair-test.false) at c.loop-pair.invariant
