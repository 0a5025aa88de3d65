use Rattle.std.proofs.Common.{◌≡◌, ◌++◌, drop}
use Rattle.bc_bodies.proofs.children.copy_children.Given as goal

abbrev pub invariant-loop-kid : goal.invariant-loop-kid
invariant-loop-kid l = l.children.items ++ drop l.kid-index l.kids ≡ l.kids
