use Rattle.std.proofs.Common.{length}
use Rattle.bc_bodies.proofs.place_types.+lent_behind.Given as goal

abbrev pub decreases-lent_behind : goal.decreases-lent_behind
decreases-lent_behind l = length l.projections.now
