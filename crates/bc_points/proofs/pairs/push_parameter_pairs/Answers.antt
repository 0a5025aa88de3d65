use Rattle.std.proofs.lemmas.Result.{on_ok_weaker}
use Rattle.bc_points.proofs.Clauses.{appended-both}
use Rattle.bc_points.proofs.pairs.push_parameter_pairs.Goals as goal

pub returns : goal.returns
returns c =
    on_ok_weaker c.push_replaced_well_formed.result (appended-both _ _ _ _ _ c.in_ok-push_operand_pairs.ensures) (rw c.types.ensures at c.push_replaced_well_formed.ensures)
