use Rattle.std.proofs.Common.{length}
use Rattle.bc_cons.proofs.starts.+add_locals.Given as goal

abbrev pub decreases-add_locals : goal.decreases-add_locals
decreases-add_locals l = length l.locals.now
