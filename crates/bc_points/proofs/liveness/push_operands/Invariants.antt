use Rattle.std.proofs.Common.{◌≡◌, ◌++◌, drop}
use Rattle.std.specs.List.{flat_map}
use Rattle.bc_points.specs.Accesses.{operand_uses}
use Rattle.bc_points.proofs.liveness.push_operands.Given as goal

abbrev pub invariant-loop-operand : goal.invariant-loop-operand
invariant-loop-operand l =
    l.locals.items ++ flat_map operand_uses (drop l.operand-index l.operands)
    ≡ l.initial.locals.items ++ flat_map operand_uses l.operands
