use Rattle.std.proofs.Common.{◌≡◌, ◌++◌, drop, map}
use Rattle.bc_outcomes.proofs.making.requirements_of.Given as goal

abbrev pub invariant-loop-kid : goal.invariant-loop-kid
invariant-loop-kid l = l.requirements.items ++ map (λ kid. kid.1) (drop l.kid-index l.kids) ≡ map (λ kid. kid.1) l.kids
