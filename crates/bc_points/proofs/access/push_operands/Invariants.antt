use Rattle.std.proofs.Common.{◌≡◌, ◌++◌, drop}
use Rattle.std.specs.List.{flat_map}
use Rattle.bc_points.specs.Accesses.{operand_accesses}
use Rattle.bc_points.proofs.access.push_operands.Given as goal

abbrev pub invariant-loop-operand : goal.invariant-loop-operand
invariant-loop-operand l =
    l.accesses.items ++ flat_map operand_accesses (drop l.operand-index l.operands)
    ≡ l.initial.accesses.items ++ flat_map operand_accesses l.operands
