use Rattle.std.proofs.Common.{ap, ◌∙◌}
use Rattle.bc_mir.specs.Rules.{type_of_operand, has_shape}
use Rattle.bc_mir.proofs.Blanking.{has_shape-expected}
use Rattle.bc_mir.proofs.rules.operand_has_shape_of.Goals as goal

pub returns : goal.returns
returns c =
    let found = type_of_operand c.args.draft.now c.args.operand.now in
    c.operand_has_shape.ensures
    ∙ ap (λ ty. has_shape ty found) c.of.ensures
    ∙ has_shape-expected c.args.ty.now found
