use Rattle.std.proofs.Common.{◌≡◌, ◌++◌, drop, filter}
use Rattle.bc_judge.specs.Lifetimes.{is_required}
use Rattle.bc_judge.proofs.lifetimes.requirements.Given as goal

abbrev pub invariant-loop-failure : goal.invariant-loop-failure
invariant-loop-failure l =
    l.pairs ++ filter (is_required l.typed) (drop l.failure-index l.failures) ≡ filter (is_required l.typed) l.failures
