use Rattle.std.proofs.Common.{length}
use Rattle.bc_points.proofs.support.+supports_behind.Given as goal

abbrev pub decreases-supports_behind : goal.decreases-supports_behind
decreases-supports_behind l = length l.projections.now
