use Rattle.std.proofs.Common.{length}
use Rattle.bc_reasons.proofs.points.+push_operands.Given as goal

abbrev pub decreases-push_operands : goal.decreases-push_operands
decreases-push_operands l = length l.operands.now
