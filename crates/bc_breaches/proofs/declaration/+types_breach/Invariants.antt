use Rattle.std.proofs.Common.{length}
use Rattle.bc_breaches.proofs.declaration.+types_breach.Given as goal

abbrev pub decreases-types_breach : goal.decreases-types_breach
decreases-types_breach l = length l.types.now
