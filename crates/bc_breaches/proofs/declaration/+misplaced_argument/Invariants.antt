use Rattle.std.proofs.Common.{length}
use Rattle.bc_breaches.proofs.declaration.+misplaced_argument.Given as goal

abbrev pub decreases-misplaced_argument : goal.decreases-misplaced_argument
decreases-misplaced_argument l = length l.parameters.now
