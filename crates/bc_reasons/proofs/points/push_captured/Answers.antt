use Rattle.std.proofs.lemmas.Result.{on_ok_weaker}
use Rattle.bc_points.proofs.Clauses.{appended-both}
use Rattle.bc_reasons.proofs.points.push_captured.Goals as goal

pub returns : goal.returns
returns c =
    on_ok_weaker c.push_rule.result
    (appended-both _ _ _ _ _ (rw (c.as_slice-2.ensures.value, c.in_ok-given.ensures, c.as_slice.ensures, c.as_slice-captures.ensures, c.as_slice-3.ensures) at c.in_ok-push_operands.ensures))
    (rw (c.deref-2.ensures.value, c.in_ok-pairs.ensures, c.deref.ensures.value, c.in_ok-given.ensures, c.as_slice.ensures, c.as_slice-captures.ensures, c.as_slice-clauses.ensures) at c.push_rule.ensures)
