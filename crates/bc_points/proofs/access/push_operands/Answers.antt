use Rattle.std.proofs.Common.{◌∷◌, ◌+◌, drop, refl, sym, ap, ◌∙◌}
use Rattle.std.specs.List.{flat_map}
use Rattle.std.proofs.lemmas.List.{at_drop_more}
use Rattle.bc_types.proofs.Appending.{appended-turn, appended-all}
use Rattle.bc_points.specs.Accesses.{operand_accesses}
use Rattle.bc_points.proofs.access.push_operands.Goals as goal

pub loop-operand-preserved : goal.loop-operand-preserved
loop-operand-preserved c =
    let each = flat_map operand_accesses in
    let operands = c.args.operands.now in
    let i = c.loop-operand.operand-index in
    let one = at_drop_more each operands i c.operand-item.result c.loop-operand-test.true ∙ ap (λ operand. each (operand ∷ drop (i + 1) operands)) (sym c.operand-item.is) in
    appended-turn each _ _ operands i _ _ c.in_ok-push_operand.ensures one c.loop-operand.invariant

pub returns : goal.returns
returns c = appended-all (flat_map operand_accesses) _ _ c.args.operands.now c.loop-operand.operand-index c.loop-operand-test.false refl c.loop-operand.invariant
