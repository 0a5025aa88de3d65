use Rattle.std.proofs.Common.{length}
use Rattle.bc_bodies.proofs.place_types.+passes_only_mutable.Given as goal

abbrev pub decreases-passes_only_mutable : goal.decreases-passes_only_mutable
decreases-passes_only_mutable l = length l.projections.now
