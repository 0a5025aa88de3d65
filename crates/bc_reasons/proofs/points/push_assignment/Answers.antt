use Rattle.std.proofs.Common.{◌++◌}
use Rattle.std.proofs.lemmas.Result.{on_ok_weaker}
use Rattle.bc_mir.specs.Rules.{type_of_rvalue}
use Rattle.bc_points.specs.Pairs.{sub_place}
use Rattle.bc_points.proofs.Clauses.{appended-both}
use Rattle.bc_cons.specs.Constraints.{reborrow_pairs, required_pairs}
use Rattle.bc_reasons.specs.declared.demand.Rule.TheVariants as rules
use Rattle.bc_reasons.specs.Demands.{demands_at, field_demands, value_rule}
use Rattle.bc_reasons.proofs.points.push_assignment.Goals as goal

pub returns : goal.returns
returns c =
    let mir = c.args.here.typed.now in
    let p = c.args.here.point in
    let assignment = c.args.assignment.now in
    let fields = field_demands mir p assignment.value in
    let value = demands_at mir p (value_rule assignment.value) (sub_place mir (type_of_rvalue mir assignment.value) assignment.target) in
    let required = demands_at mir p rules.Creation (required_pairs mir c.args.kids.now assignment.value) in
    let reborrow = demands_at mir p rules.Reborrow (reborrow_pairs mir assignment.value) in
    on_ok_weaker c.push_rule-2.result
    (λ done. appended-both _ _ _ fields (value ++ (required ++ reborrow)) c.in_ok-push_fields.ensures
    (appended-both _ _ _ value (required ++ reborrow) c.in_ok-push_value.ensures
    (appended-both _ _ _ required reborrow (rw (c.deref.ensures.value, c.in_ok-required.ensures) at c.in_ok-push_rule.ensures) done)))
    (rw (c.deref-2.ensures.value, c.in_ok-reborrow.ensures) at c.push_rule-2.ensures)
