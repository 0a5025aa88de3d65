use Rattle.std.proofs.Common.{◌≡◌, ◌+◌, length, drop}
use Rattle.bc_position.specs.Positions.{first_lines}
use Rattle.bc_position.proofs.position.count_first_lines.Given as goal

abbrev pub invariant-loop-i : goal.invariant-loop-i
invariant-loop-i l = length (first_lines l.lines l.text) ≡ l.i + length (first_lines l.left (drop l.i l.text))
