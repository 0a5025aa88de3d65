use Rattle.std.proofs.Common.{length}
use Rattle.bc_bodies.proofs.externals.+stands_behind.Given as goal

abbrev pub decreases-stands_behind : goal.decreases-stands_behind
decreases-stands_behind l = length l.references.now
