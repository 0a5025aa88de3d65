use Rattle.std.proofs.Common.{length}
use Rattle.bc_mir.proofs.place_shapes.+shape_behind.Given as goal

abbrev pub decreases-shape_behind : goal.decreases-shape_behind
decreases-shape_behind l = length l.projections.now
