use Rattle.std.proofs.Common.{length}
use Rattle.bc_breaches.proofs.unit.+struct_breach.Given as goal

abbrev pub decreases-struct_breach : goal.decreases-struct_breach
decreases-struct_breach l = length l.locals.now
