use Rattle.std.proofs.Common.{ap, ◌∙◌}
use Rattle.bc_mir.specs.Rules.{type_to_write, type_of_rvalue, of_one_shape}
use Rattle.bc_mir.proofs.Blanking.{of_one_shape-blanked}
use Rattle.bc_mir.proofs.rules.assignment_keeps_rules.Goals as goal

pub returns-in-Some : goal.returns-in-Some
returns-in-Some c =
    let value = type_of_rvalue c.args.draft.now c.args.assignment.now.value in
    c.takes_value.ensures
    ∙ ap (λ target. of_one_shape target value) c.in-Some.ensures
    ∙ of_one_shape-blanked (type_to_write c.args.draft.now c.args.assignment.now.target) value
