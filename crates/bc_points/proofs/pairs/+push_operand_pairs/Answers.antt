use Rattle.std.proofs.lemmas.Result.{on_ok_weaker}
use Rattle.bc_points.proofs.Clauses.{operand-pairs}
use Rattle.bc_points.proofs.pairs.+push_operand_pairs.Goals as goal

pub returns-in_ok-push_operand_pair-in-len1-up-expected : goal.returns-in_ok-push_operand_pair-in-len1-up-expected
returns-in_ok-push_operand_pair-in-len1-up-expected t c =
    on_ok_weaker c.push_operand_pairs.result (operand-pairs c.args.typed.now c.args.arguments.now c.args.operands.now c.args.expected.now c.operand-item.result c.ty-item.result _ _ _ c.in-len1-up.len_at_least c.in-len1-up-expected.len_at_least c.operand-item.is c.ty-item.is c.in_ok-push_operand_pair-in-len1-up-expected.ensures) c.push_operand_pairs.ensures
