use Rattle.std.proofs.Common.{◌≡◌, ◌++◌, drop}
use Rattle.std.specs.List.{flat_map, enumerate_from}
use Rattle.bc_reasons.specs.Demands.{step_demands}
use Rattle.bc_reasons.proofs.body.push_points.Given as goal

abbrev pub invariant-loop-point : goal.invariant-loop-point
invariant-loop-point l =
    l.demands.items ++ flat_map (step_demands l.typed l.kids) (enumerate_from l.point (drop l.point l.typed.steps))
    ≡ l.initial.demands.items ++ flat_map (step_demands l.typed l.kids) (enumerate_from 0 l.typed.steps)
