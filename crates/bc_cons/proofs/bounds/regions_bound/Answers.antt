use Rattle.std.proofs.Common.{sym, ◌∙◌, arith}
use Rattle.std.proofs.lemmas.List.{at_drop_more, at_drop_all}
use Rattle.bc_cons.specs.Bounds.{regions_bound}
use Rattle.bc_cons.proofs.bounds.regions_bound.Goals as goal

pub loop-region-preserved : goal.loop-region-preserved
loop-region-preserved c =
    let here = c.loop-region in
    record {
      bound = rw (c.max-bound.ensures, c.region_number.ensures.value) (sym (at_drop_more (regions_bound c.args.universals here.bound) c.args.regions.now here.region-index _ c.loop-region-test.true) ∙ here.invariant.bound);
      within = omega (arith, c.max-bound.ensures, c.region_number.ensures.small, here.invariant.within);
    }

pub returns-clause-bound : goal.returns-clause-bound
returns-clause-bound c =
    let here = c.loop-region in
    sym (at_drop_all (regions_bound c.args.universals here.bound) c.args.regions.now here.region-index c.loop-region-test.false) ∙ here.invariant.bound
