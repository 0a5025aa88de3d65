use Rattle.std.proofs.Common.{ℕ}
use Rattle.bc_syntax.specs.declared.syntax.Operand.{Operand}
use Rattle.bc_mir.proofs.Numbering.{numbered-turn, numbered-all}
use Rattle.bc_reasons.specs.Parts.{operand_parts}
use Rattle.bc_reasons.proofs.part.push_operands.Goals as goal

pub loop-number-preserved : goal.loop-number-preserved
loop-number-preserved c =
    let each = λ (here : ℕ × Operand). operand_parts here.0 here.1 in
    numbered-turn each _ _ c.args.operands.now c.loop-number.number c.index-operands-number.result _ c.loop-number-test.true c.index-operands-number.is c.in_ok-push_operand.ensures c.loop-number.invariant

pub returns : goal.returns
returns c =
    let each = λ (here : ℕ × Operand). operand_parts here.0 here.1 in
    numbered-all each _ _ c.args.operands.now c.loop-number.number c.loop-number-test.false c.loop-number.invariant
