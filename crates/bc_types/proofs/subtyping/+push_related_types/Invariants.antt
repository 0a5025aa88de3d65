use Rattle.std.proofs.Common.{length}
use Rattle.bc_types.proofs.subtyping.+push_related_types.Given as goal

abbrev pub decreases-push_related_types : goal.decreases-push_related_types
decreases-push_related_types l = length l.value.now.references
