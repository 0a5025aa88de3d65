use Rattle.std.proofs.Common.{Some, ◌++◌}
use Rattle.std.proofs.lemmas.Result.{on_ok_weaker}
use Rattle.bc_shapes.specs.Replaced.{replaced_ty}
use Rattle.bc_points.specs.Pairs.{parameter_pairs, is_inner_clause, clauses_where, sub_place}
use Rattle.bc_points.proofs.Clauses.{appended-both}
use Rattle.bc_points.proofs.pairs.push_passed_pairs.Goals as goal

pub returns : goal.returns
returns c =
    let typed = c.args.typed.now in
    let regions = c.args.arguments.now in
    let invocation = c.args.invocation.now in
    let signature = c.args.header.now.signature in
    let parameters = parameter_pairs typed regions invocation.operands signature.parameters in
    let clauses = clauses_where (is_inner_clause c.args.header.now) regions signature.clauses in
    let returned = sub_place typed (Some (replaced_ty regions signature.result)) invocation.destination in
    on_ok_weaker c.push_returned_pairs.result
    (λ done. appended-both _ _ _ parameters (clauses ++ returned) (rw (c.as_slice-operands.ensures, c.as_slice-expected.ensures) at c.in_ok-push_parameter_pairs.ensures)
    (appended-both _ _ _ clauses returned (rw c.as_slice.ensures at c.in_ok-push_inner_clauses.ensures) done))
    c.push_returned_pairs.ensures
