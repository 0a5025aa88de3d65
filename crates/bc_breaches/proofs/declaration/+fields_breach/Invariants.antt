use Rattle.std.proofs.Common.{length}
use Rattle.bc_breaches.proofs.declaration.+fields_breach.Given as goal

abbrev pub decreases-fields_breach : goal.decreases-fields_breach
decreases-fields_breach l = length l.types.now
