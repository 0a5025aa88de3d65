use Rattle.std.proofs.Common.{◌≡◌, ◌-◌, []}
use Rattle.bc_tokens.specs.Parser.{separated_from}
use Rattle.bc_text.specs.Reading.{operand, begins_operand}
use Rattle.bc_text.proofs.places.some_operands.Given as goal

abbrev pub invariant-loop-turn : goal.invariant-loop-turn
invariant-loop-turn l = separated_from begins_operand (operand l.locals) 16 [] l.initial.cursor ≡ separated_from begins_operand (operand l.locals) (16 - l._turn) l.found l.cursor
