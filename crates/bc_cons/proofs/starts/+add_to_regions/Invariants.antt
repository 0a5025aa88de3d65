use Rattle.std.proofs.Common.{length}
use Rattle.bc_cons.proofs.starts.+add_to_regions.Given as goal

abbrev pub decreases-add_to_regions : goal.decreases-add_to_regions
decreases-add_to_regions l = length l.regions.now
