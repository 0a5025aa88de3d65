use Rattle.std.proofs.Common.{◌≡◌, drop}
use Rattle.bc_mir.specs.Typing.{first_unfit}
use Rattle.bc_mir.proofs.typed.first_unfit.Given as goal

abbrev pub invariant-loop-step : goal.invariant-loop-step
invariant-loop-step l = first_unfit l.draft (drop l.step-index l.step-items) ≡ first_unfit l.draft l.draft.steps
