use Rattle.std.proofs.Common.{length}
use Rattle.bc_bodies.proofs.externals.+local_count.Given as goal

abbrev pub decreases-local_count : goal.decreases-local_count
decreases-local_count l = length l.names.now
