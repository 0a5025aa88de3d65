use Rattle.std.proofs.Common.{take}
use Rattle.bc_syntax.specs.Children.{AreMarked, closures_of_statements}
use Rattle.bc_syntax.proofs.closures.mark_statements.Given as goal

abbrev pub invariant-loop-statement : goal.invariant-loop-statement
invariant-loop-statement l = AreMarked l.initial.marks (closures_of_statements (take l.statement-index l.statements)) l.marks
