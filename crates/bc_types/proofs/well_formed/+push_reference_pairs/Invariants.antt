use Rattle.std.proofs.Common.{length}
use Rattle.bc_types.proofs.well_formed.+push_reference_pairs.Given as goal

abbrev pub decreases-push_reference_pairs : goal.decreases-push_reference_pairs
decreases-push_reference_pairs l = length l.references.now
