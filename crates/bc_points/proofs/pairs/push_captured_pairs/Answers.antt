use Rattle.std.proofs.lemmas.Result.{on_ok_weaker}
use Rattle.bc_points.proofs.Clauses.{appended-both}
use Rattle.bc_points.proofs.pairs.push_captured_pairs.Goals as goal

pub returns : goal.returns
returns c =
    on_ok_weaker c.push_outer_clauses.result
    (appended-both _ _ _ _ _ (rw (c.deref.ensures.value, c.in_ok-given.ensures, c.as_slice.ensures, c.as_slice-operands.ensures, c.as_slice-captures.ensures) at c.in_ok-push_operand_pairs.ensures))
    (rw (c.deref-2.ensures.value, c.in_ok-given.ensures, c.as_slice.ensures, c.as_slice-2.ensures, c.as_slice-captures.ensures) at c.push_outer_clauses.ensures)
