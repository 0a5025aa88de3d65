use Rattle.std.proofs.Common.{◌≡◌}
use Rattle.std.specs.List.{flat_map, range_with_len}
use Rattle.bc_flow.specs.Flow.{holds}
use Rattle.bc_judge.specs.Lifetimes.{failures_from}
use Rattle.bc_judge.proofs.failures.failures.Given as goal

abbrev pub invariant-loop-longer : goal.invariant-loop-longer
invariant-loop-longer l =
    l.failures.items ≡ flat_map (failures_from l.typed (holds l.values) (holds l.known)) (range_with_len 0 l.longer)
