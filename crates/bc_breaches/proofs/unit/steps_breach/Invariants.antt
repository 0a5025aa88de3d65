use Rattle.std.proofs.Common.{◌≡◌, drop}
use Rattle.bc_breaches.specs.Typing.{steps_breach}
use Rattle.bc_breaches.proofs.unit.steps_breach.Given as goal

abbrev pub invariant-loop-step : goal.invariant-loop-step
invariant-loop-step l = steps_breach l.draft (drop l.step-index l.steps) ≡ steps_breach l.draft l.steps
