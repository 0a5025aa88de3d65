use Rattle.std.proofs.Common.{length}
use Rattle.bc_bodies.proofs.place_types.+push_references_behind.Given as goal

abbrev pub decreases-push_references_behind : goal.decreases-push_references_behind
decreases-push_references_behind l = length l.projections.now
