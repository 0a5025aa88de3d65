use Rattle.std.proofs.lemmas.Result.{on_ok_weaker}
use Rattle.bc_points.proofs.Clauses.{appended-both}
use Rattle.bc_reasons.proofs.points.push_parameters.Goals as goal

pub returns : goal.returns
returns c =
    on_ok_weaker c.push_rule.result (appended-both _ _ _ _ _ c.in_ok-push_operands.ensures)
    (rw (c.deref.ensures.value, c.in_ok-pairs.ensures) at c.push_rule.ensures)
