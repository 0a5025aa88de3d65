use Rattle.std.proofs.Common.{◌≡◌, ◌++◌, drop}
use Rattle.std.specs.List.{flat_map}
use Rattle.bc_cons.specs.Constraints.{pairs_at}
use Rattle.bc_cons.proofs.body.pairs_of_steps.Given as goal

abbrev pub invariant-loop-step : goal.invariant-loop-step
invariant-loop-step l =
    l.pairs.items ++ flat_map (λ step. pairs_at l.typed l.kids step.instruction) (drop l.step-index l.steps)
    ≡ flat_map (λ step. pairs_at l.typed l.kids step.instruction) l.steps
