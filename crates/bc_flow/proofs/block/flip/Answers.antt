use Rattle.std.proofs.Common.{arith}
use Rattle.bc_flow.proofs.Blocks.{without_lowest-less, AreFlippedBut-next, AreFlipped-end}
use Rattle.bc_flow.proofs.block.flip.Goals as goal

pub loop-rest-smaller : goal.loop-rest-smaller
loop-rest-smaller c = without_lowest-less c.loop-rest.rest (omega (arith, c.loop-rest-test.true)) c.loop-rest.invariant.small

pub loop-rest-preserved : goal.loop-rest-preserved
loop-rest-preserved c = AreFlippedBut-next c.loop-rest.rest c.args.changed c.args.mask c.args.block.now c.loop-rest.block (omega (arith, c.loop-rest-test.true)) c.loop-rest.invariant

pub returns : goal.returns
returns c = AreFlipped-end c.args.changed c.args.mask c.args.block.now c.loop-rest.block (rw c.loop-rest-test.false at c.loop-rest.invariant)
