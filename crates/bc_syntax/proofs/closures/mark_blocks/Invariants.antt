use Rattle.std.proofs.Common.{take}
use Rattle.bc_syntax.specs.Children.{AreMarked, closures_of_blocks}
use Rattle.bc_syntax.proofs.closures.mark_blocks.Given as goal

abbrev pub invariant-loop-block : goal.invariant-loop-block
invariant-loop-block l = AreMarked l.initial.marks (closures_of_blocks (take l.block-index l.blocks)) l.marks
