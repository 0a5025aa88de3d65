use Rattle.bc_mir.proofs.Numbering.{numbered-turn, numbered-all}
use Rattle.bc_reasons.specs.Demands.{step_demands}
use Rattle.bc_reasons.proofs.body.push_points.Goals as goal

pub loop-point-preserved : goal.loop-point-preserved
loop-point-preserved c =
    let mir = c.args.typed.now in
    let all = c.steps-step-items.ensures.value in
    numbered-turn (step_demands mir c.args.kids.now) _ _ mir.steps c.loop-point.point c.step-item.result _ (rw all at c.loop-point-test.true) (rw all at c.step-item.is) c.in_ok-push_point.ensures c.loop-point.invariant

pub returns : goal.returns
returns c =
    let mir = c.args.typed.now in
    numbered-all (step_demands mir c.args.kids.now) _ _ mir.steps c.loop-point.point (rw c.steps-step-items.ensures.value at c.loop-point-test.false) c.loop-point.invariant
