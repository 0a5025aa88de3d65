use Rattle.std.proofs.Common.{◌≡◌, ◌++◌, drop, map}
use Rattle.bc_prov.specs.State.{number_of_child}
use Rattle.bc_prov.proofs.pieces.Piece.children.Given as goal

abbrev pub invariant-loop-child : goal.invariant-loop-child
invariant-loop-child l = l.numbers.items ++ map number_of_child (drop l.child-index l.children) ≡ map number_of_child l.children
