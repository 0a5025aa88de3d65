use Rattle.std.proofs.Common.{length}
use Rattle.bc_breaches.proofs.operands.+operands_breach.Given as goal

abbrev pub decreases-operands_breach : goal.decreases-operands_breach
decreases-operands_breach l = length l.operands.now
