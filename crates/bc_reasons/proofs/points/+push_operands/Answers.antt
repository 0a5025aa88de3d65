use Rattle.std.proofs.lemmas.Result.{on_ok_weaker}
use Rattle.bc_reasons.proofs.Operands.{operands-turn}
use Rattle.bc_reasons.proofs.points.+push_operands.Goals as goal

pub returns-in_ok-push_operand-in-len1-up-expected : goal.returns-in_ok-push_operand-in-len1-up-expected
returns-in_ok-push_operand-in-len1-up-expected t c =
    on_ok_weaker c.push_operands.result (operands-turn c.args.passing.here.typed.now c.args.passing.here.point c.args.passing.arguments.now c.args.number c.args.operands.now c.args.expected.now
    c.operand-item.result c.ty-item.result _ _ _ c.in-len1-up.len_at_least c.in-len1-up-expected.len_at_least c.operand-item.is c.ty-item.is c.in_ok-push_operand-in-len1-up-expected.ensures) c.push_operands.ensures
