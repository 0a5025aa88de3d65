use Rattle.std.proofs.Common.{take}
use Rattle.bc_syntax.specs.Children.{AreMarked, closures_of_types}
use Rattle.bc_syntax.proofs.closures.mark_types.Given as goal

abbrev pub invariant-loop-ty : goal.invariant-loop-ty
invariant-loop-ty l = AreMarked l.initial.marks (closures_of_types (take l.ty-index l.types)) l.marks
