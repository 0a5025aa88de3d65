use Rattle.std.proofs.Common.{length}
use Rattle.bc_outcomes.proofs.visit.+same_children.Given as goal

abbrev pub decreases-same_children : goal.decreases-same_children
decreases-same_children l = length l.one.now
