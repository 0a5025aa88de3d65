use Rattle.std.proofs.Common.{◌≡◌, ◌++◌}
use Rattle.std.specs.List.{flat_map, range_with_len}
use Rattle.bc_flow.specs.Flow.{holds}
use Rattle.bc_judge.specs.Lifetimes.{failure_of}
use Rattle.bc_judge.proofs.failures.push_failures.Given as goal

abbrev pub invariant-loop-shorter : goal.invariant-loop-shorter
invariant-loop-shorter l =
    l.failures.items ≡ l.initial.failures.items ++ flat_map (failure_of l.typed (holds l.values) (holds l.known) l.longer) (range_with_len 0 l.shorter)
