use Rattle.std.proofs.Common.{◌+◌, ◌*◌, length}
use Rattle.bc_bodies.proofs.place_types.+type_behind.Given as goal

abbrev pub decreases-type_behind : goal.decreases-type_behind
decreases-type_behind l = 2 * length l.projections.now

abbrev pub decreases-type_behind_field : goal.decreases-type_behind_field
decreases-type_behind_field l = 2 * length l.projections.now + 1
