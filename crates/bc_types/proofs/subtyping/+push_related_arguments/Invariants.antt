use Rattle.std.proofs.Common.{length}
use Rattle.bc_types.proofs.subtyping.+push_related_arguments.Given as goal

abbrev pub decreases-push_related_arguments : goal.decreases-push_related_arguments
decreases-push_related_arguments l = length l.variances.now
