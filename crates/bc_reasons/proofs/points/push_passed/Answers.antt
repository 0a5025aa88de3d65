use Rattle.std.proofs.Common.{Some, ◌++◌}
use Rattle.std.proofs.lemmas.Result.{on_ok_weaker}
use Rattle.bc_shapes.specs.Replaced.{replaced_ty}
use Rattle.bc_points.specs.Pairs.{clauses_where, is_inner_clause, sub_place}
use Rattle.bc_points.proofs.Clauses.{appended-both}
use Rattle.bc_reasons.specs.declared.demand.Rule.TheVariants as rules
use Rattle.bc_reasons.specs.Demands.{demands_at, parameter_demands}
use Rattle.bc_reasons.proofs.points.push_passed.Goals as goal

pub returns : goal.returns
returns c =
    let mir = c.args.passing.here.typed.now in
    let p = c.args.passing.here.point in
    let arguments = c.args.passing.arguments.now in
    let invocation = c.args.invocation.now in
    let header = c.args.header.now in
    let parameters = parameter_demands mir p arguments invocation.operands header.signature.parameters in
    let clauses = demands_at mir p rules.Invocation (clauses_where (is_inner_clause header) arguments header.signature.clauses) in
    let returned = demands_at mir p rules.Result (sub_place mir (Some (replaced_ty arguments header.signature.result)) invocation.destination) in
    on_ok_weaker c.push_result.result
    (λ done. appended-both _ _ _ parameters (clauses ++ returned) (rw (c.as_slice-operands.ensures, c.as_slice.ensures) at c.in_ok-push_parameters.ensures)
    (appended-both _ _ _ clauses returned (rw (c.deref.ensures.value, c.in_ok-inner.ensures, c.as_slice-clauses.ensures) at c.in_ok-push_rule.ensures) done))
    c.push_result.ensures
