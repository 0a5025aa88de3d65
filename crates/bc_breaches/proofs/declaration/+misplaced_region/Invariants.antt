use Rattle.std.proofs.Common.{length}
use Rattle.bc_breaches.proofs.declaration.+misplaced_region.Given as goal

abbrev pub decreases-misplaced_region : goal.decreases-misplaced_region
decreases-misplaced_region l = length l.references.now
