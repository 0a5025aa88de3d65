use Rattle.std.proofs.Common.{length}
use Rattle.bc_outcomes.proofs.walk.+have_headers.Given as goal

abbrev pub decreases-have_headers : goal.decreases-have_headers
decreases-have_headers l = length l.children.now
