use Rattle.std.proofs.Common.{◌≡◌, ◌++◌, ℕ, drop}
use Rattle.std.specs.List.{flat_map, enumerate_from}
use Rattle.bc_syntax.specs.declared.syntax.Operand.{Operand}
use Rattle.bc_reasons.specs.Parts.{operand_parts, operands_parts}
use Rattle.bc_reasons.proofs.part.push_operands.Given as goal

abbrev pub invariant-loop-number : goal.invariant-loop-number
invariant-loop-number l =
    l.parts.items ++ flat_map (λ (here : ℕ × Operand). operand_parts here.0 here.1) (enumerate_from l.number (drop l.number l.operands))
    ≡ l.initial.parts.items ++ operands_parts l.operands
