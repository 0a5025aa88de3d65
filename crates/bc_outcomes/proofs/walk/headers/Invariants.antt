use Rattle.std.proofs.Common.{◌≡◌, ◌++◌, drop, map}
use Rattle.bc_outcomes.specs.Visits.{child_of_kid}
use Rattle.bc_outcomes.proofs.walk.headers.Given as goal

abbrev pub invariant-loop-kid : goal.invariant-loop-kid
invariant-loop-kid l = l.headers.items ++ map child_of_kid (drop l.kid-index l.kids) ≡ map child_of_kid l.kids
