use Rattle.std.proofs.Common.{length}
use Rattle.bc_mir.proofs.rules.+have_shapes.Given as goal

abbrev pub decreases-have_shapes : goal.decreases-have_shapes
decreases-have_shapes l = length l.operands.now
