use Rattle.std.proofs.Common.{length}
use Rattle.bc_breaches.proofs.operands.+ints_breach.Given as goal

abbrev pub decreases-ints_breach : goal.decreases-ints_breach
decreases-ints_breach l = length l.operands.now
