use Rattle.std.proofs.Common.{sym, ◌∙◌}
use Rattle.bc_breaches.proofs.Stepping.{passed-step, found-step, no-step}
use Rattle.bc_breaches.proofs.unit.steps_breach.Goals as goal

pub loop-step-preserved : goal.loop-step-preserved
loop-step-preserved c = passed-step c.args.draft.now c.args.steps.now c.loop-step.step-index c.step-item.result c.loop-step-test.true c.step-item.is _ (sym c.in_ok-breach.ensures ∙ c.in-None.is) c.loop-step.invariant

pub returns-in-Some : goal.returns-in-Some
returns-in-Some c =
    found-step c.args.draft.now c.args.steps.now c.loop-step.step-index c.step-item.result c.loop-step-test.true c.step-item.is _ c.in-Some.breach (sym c.in_ok-breach.ensures ∙ c.in-Some.is) c.loop-step.invariant

pub returns : goal.returns
returns c = no-step c.args.draft.now c.args.steps.now c.loop-step.step-index _ c.loop-step-test.false c.loop-step.invariant
