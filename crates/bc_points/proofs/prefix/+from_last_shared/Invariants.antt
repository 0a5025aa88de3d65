use Rattle.std.proofs.Common.{length}
use Rattle.bc_points.proofs.prefix.+from_last_shared.Given as goal

abbrev pub decreases-from_last_shared : goal.decreases-from_last_shared
decreases-from_last_shared l = length l.references.now
