use Rattle.std.proofs.Common.{length}
use Rattle.bc_bodies.proofs.children.+child_of.Given as goal

abbrev pub decreases-child_of : goal.decreases-child_of
decreases-child_of l = length l.children.now
