use Rattle.std.proofs.Common.{Some, ◌++◌, map}
use Rattle.std.proofs.lemmas.Result.{on_ok_weaker}
use Rattle.bc_shapes.specs.Replaced.{replaced_ty}
use Rattle.bc_points.specs.Pairs.{parameter_pairs, replaced_clause, sub_place}
use Rattle.bc_points.proofs.Clauses.{appended-both}
use Rattle.bc_points.proofs.pairs.push_called_pairs.Goals as goal

pub returns : goal.returns
returns c =
    let typed = c.args.typed.now in
    let call = c.args.call.now in
    let regions = call.function.regions in
    let signature = c.args.declaration.now.signature in
    let parameters = parameter_pairs typed regions call.operands signature.parameters in
    let clauses = map (replaced_clause regions) signature.clauses in
    let returned = sub_place typed (Some (replaced_ty regions signature.result)) call.destination in
    on_ok_weaker c.push_returned_pairs.result
    (λ done. appended-both _ _ _ parameters (clauses ++ returned) (rw (c.as_slice-arguments.ensures, c.as_slice-operands.ensures, c.as_slice-parameters.ensures) at c.in_ok-push_parameter_pairs.ensures)
    (appended-both _ _ _ clauses returned (rw (c.as_slice-arguments.ensures, c.as_slice.ensures) at c.in_ok-push_clauses.ensures) done))
    (rw c.as_slice-arguments.ensures at c.push_returned_pairs.ensures)
