use Rattle.std.proofs.Common.{◌≡◌, ◌++◌, drop, filter}
use Rattle.bc_judge.specs.Lifetimes.{is_lifetime_error}
use Rattle.bc_judge.proofs.lifetimes.lifetimes.Given as goal

abbrev pub invariant-loop-failure : goal.invariant-loop-failure
invariant-loop-failure l =
    l.lifetimes.items ++ filter (is_lifetime_error l.typed) (drop l.failure-index l.failures) ≡ filter (is_lifetime_error l.typed) l.failures
