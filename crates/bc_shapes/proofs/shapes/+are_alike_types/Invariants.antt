use Rattle.std.proofs.Common.{length}
use Rattle.bc_shapes.proofs.shapes.+are_alike_types.Given as goal

abbrev pub decreases-are_alike_types : goal.decreases-are_alike_types
decreases-are_alike_types l = length l.references.now
