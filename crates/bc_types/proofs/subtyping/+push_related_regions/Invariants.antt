use Rattle.std.proofs.Common.{length}
use Rattle.bc_types.proofs.subtyping.+push_related_regions.Given as goal

abbrev pub decreases-push_related_regions : goal.decreases-push_related_regions
decreases-push_related_regions l = length l.regions.now
