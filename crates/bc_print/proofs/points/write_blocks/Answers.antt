use Rattle.bc_print.proofs.Printings.{writes_block}
use Rattle.bc_print.proofs.points.write_blocks.Goals as goal

pub loop-number-preserved : goal.loop-number-preserved
loop-number-preserved g c =
    writes_block c.args.regions.now _ _ _ _ c.args.blocks.now c.loop-number.number c.index-blocks-number.result c.loop-number-test.true c.index-blocks-number.is c.loop-number.invariant c.in_ok-write_numbered.ensures c.in_ok-write_braced.ensures
