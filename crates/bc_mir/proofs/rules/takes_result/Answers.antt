use Rattle.std.proofs.Common.{Some, ap, ◌∙◌}
use Rattle.bc_shapes.specs.Shapes.{one_shape}
use Rattle.bc_mir.specs.Rules.{type_to_write, of_one_shape}
use Rattle.bc_shapes.proofs.Blanking.{one_shape-left}
use Rattle.bc_mir.proofs.Blanking.{of_one_shape-blanked}
use Rattle.bc_mir.proofs.rules.takes_result.Goals as goal

pub returns-in-Some : goal.returns-in-Some
returns-in-Some c =
    c.is_like.ensures
    ∙ ap (λ ty. one_shape ty c.in-Some.target) c.of.ensures
    ∙ one_shape-left c.args.returned.now c.in-Some.target
    ∙ ap (λ target. of_one_shape target (Some c.args.returned.now)) c.in-Some.ensures
    ∙ of_one_shape-blanked (type_to_write c.args.draft.now c.args.destination.now) (Some c.args.returned.now)
