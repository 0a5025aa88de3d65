use Rattle.bc_flow.proofs.Blocks.{AreFlippedBut}
use Rattle.bc_flow.proofs.block.flip.Given as goal

abbrev pub invariant-loop-rest : goal.invariant-loop-rest
invariant-loop-rest l = AreFlippedBut l.rest l.changed l.mask l.initial.block l.block

abbrev pub decreases-loop-rest : goal.decreases-loop-rest
decreases-loop-rest l = l.rest
