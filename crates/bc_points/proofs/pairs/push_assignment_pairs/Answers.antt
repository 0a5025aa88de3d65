use Rattle.std.proofs.lemmas.Result.{on_ok_weaker}
use Rattle.bc_points.proofs.Clauses.{appended-both}
use Rattle.bc_points.proofs.pairs.push_assignment_pairs.Goals as goal

pub returns : goal.returns
returns c =
    on_ok_weaker c.push_sub_place_rvalue.result (appended-both _ _ _ _ _ c.in_ok-push_field_pairs.ensures) c.push_sub_place_rvalue.ensures
