use Rattle.std.proofs.Common.{◌≡◌, ◌++◌, drop}
use Rattle.std.specs.List.{flat_map, enumerate_from}
use Rattle.bc_flow.specs.Flow.{holds}
use Rattle.bc_judge.specs.Conflicts.{conflicts_of_step, conflicts_of}
use Rattle.bc_judge.proofs.conflicts.conflicts.Given as goal

abbrev pub invariant-loop-point : goal.invariant-loop-point
invariant-loop-point l =
    l.conflicts.items ++ flat_map (conflicts_of_step l.typed (holds l.scopes)) (enumerate_from l.point (drop l.point l.typed.steps))
    ≡ conflicts_of l.typed (holds l.scopes)
