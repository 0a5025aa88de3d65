use Rattle.std.proofs.Common.{◌≡◌, ◌++◌, drop, map}
use Rattle.bc_outcomes.specs.Reported.{kid_header}
use Rattle.bc_outcomes.proofs.making.headers_of.Given as goal

abbrev pub invariant-loop-kid : goal.invariant-loop-kid
invariant-loop-kid l = l.headers.items ++ map kid_header (drop l.kid-index l.kids) ≡ map kid_header l.kids
