use Rattle.bc_print.proofs.Printings.{writes_let}
use Rattle.bc_print.proofs.units.write_lets.Goals as goal

pub loop-index-preserved : goal.loop-index-preserved
loop-index-preserved g c =
    writes_let c.args.regions.now _ _ _ c.args.first c.args.lets.now c.loop-index.index c.index-lets-index.result c.loop-index-test.true c.index-lets-index.is c.loop-index.invariant c.in_ok-write_let.ensures
