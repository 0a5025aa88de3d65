use Rattle.bc_flow.specs.Flow.{holds}
use Rattle.bc_judge.specs.Conflicts.{conflicts_of_step}
use Rattle.bc_judge.proofs.Walks.{each-turn, each-end}
use Rattle.std.proofs.Common.{◌∙◌}
use Rattle.bc_judge.proofs.conflicts.conflicts.Goals as goal

pub loop-point-preserved : goal.loop-point-preserved
loop-point-preserved c =
    let steps = c.steps-step-items.ensures.value in
    each-turn (conflicts_of_step c.args.typed.now (holds c.args.scopes.now)) c.args.typed.now.steps _ _ _ c.loop-point.point c.step-item.result (rw steps at c.loop-point-test.true) (rw steps at c.step-item.is) (rw c.in_ok-body.ensures at c.in_ok-push_point.ensures) c.loop-point.invariant

pub returns : goal.returns
returns c = each-end (conflicts_of_step c.args.typed.now (holds c.args.scopes.now)) c.args.typed.now.steps _ _ c.loop-point.point (rw c.steps-step-items.ensures.value at c.loop-point-test.false) c.loop-point.invariant

pub of-requires : goal.of-requires
of-requires c = c.deref.ensures.value ∙ c.in_ok-loans.ensures
