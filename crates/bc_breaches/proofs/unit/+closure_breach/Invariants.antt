use Rattle.std.proofs.Common.{length}
use Rattle.bc_breaches.proofs.unit.+closure_breach.Given as goal

abbrev pub decreases-closure_breach : goal.decreases-closure_breach
decreases-closure_breach l = length l.locals.now
