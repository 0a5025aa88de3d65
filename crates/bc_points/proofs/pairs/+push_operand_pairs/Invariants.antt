use Rattle.std.proofs.Common.{length}
use Rattle.bc_points.proofs.pairs.+push_operand_pairs.Given as goal

abbrev pub decreases-push_operand_pairs : goal.decreases-push_operand_pairs
decreases-push_operand_pairs l = length l.operands.now
