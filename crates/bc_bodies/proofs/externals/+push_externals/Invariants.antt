use Rattle.std.proofs.Common.{length}
use Rattle.bc_bodies.proofs.externals.+push_externals.Given as goal

abbrev pub decreases-push_externals : goal.decreases-push_externals
decreases-push_externals l = length l.names.now
