use Rattle.std.proofs.Common.{length}
use Rattle.bc_cons.proofs.starts.+add_to_references.Given as goal

abbrev pub decreases-add_to_references : goal.decreases-add_to_references
decreases-add_to_references l = length l.references.now
