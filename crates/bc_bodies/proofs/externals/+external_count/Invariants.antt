use Rattle.std.proofs.Common.{length}
use Rattle.bc_bodies.proofs.externals.+external_count.Given as goal

abbrev pub decreases-external_count : goal.decreases-external_count
decreases-external_count l = length l.names.now
