use Rattle.std.proofs.Common.{sym, ◌∙◌, arith}
use Rattle.std.proofs.lemmas.List.{at_drop_more, at_drop_all}
use Rattle.bc_cons.specs.Bounds.{pairs_bound}
use Rattle.bc_cons.proofs.bounds.pairs_bound.Goals as goal

pub loop-pair-preserved : goal.loop-pair-preserved
loop-pair-preserved c =
    let here = c.loop-pair in
    record {
      bound = rw (c.max-bound.ensures, c.max.ensures, c.region_number.ensures.value, c.region_number-in-loop-pair.ensures.value) (sym (at_drop_more (pairs_bound c.args.universals here.bound) c.args.pairs.now here.pair-index _ c.loop-pair-test.true) ∙ here.invariant.bound);
      within = omega (arith, c.max-bound.ensures, c.max.ensures, c.region_number.ensures.small, c.region_number-in-loop-pair.ensures.small, here.invariant.within);
    }

pub returns-clause-bound : goal.returns-clause-bound
returns-clause-bound c =
    let here = c.loop-pair in
    sym (at_drop_all (pairs_bound c.args.universals here.bound) c.args.pairs.now here.pair-index c.loop-pair-test.false) ∙ here.invariant.bound
