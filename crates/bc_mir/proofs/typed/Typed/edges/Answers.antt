use Rattle.bc_bodies.specs.Mir.{edges_of_step}
use Rattle.bc_mir.proofs.Numbering.{numbered-turn, numbered-all}
use Rattle.bc_mir.proofs.Fitting.{fits_at-first_unfit}
use Rattle.bc_mir.proofs.typed.Typed.edges.Goals as goal

-- each point of a typed unit fits
pub push_edges-requires-clause-fits : goal.push_edges-requires-clause-fits
push_edges-requires-clause-fits c =
    rw c.self.view_is (fits_at-first_unfit c.args.self.now c.steps-step-items.result.now c.loop-point.point c.step-item.result c.steps-step-items.ensures.fit c.loop-point-test.true c.step-item.is)

pub loop-point-preserved : goal.loop-point-preserved
loop-point-preserved c =
    let typed = c.args.self.now in
    let steps = c.steps-step-items.ensures.value in
    numbered-turn (edges_of_step typed) _ _ typed.steps c.loop-point.point c.step-item.result _ (rw steps at c.loop-point-test.true) (rw steps at c.step-item.is) (rw c.self.view_is at c.in_ok-push_edges.ensures) c.loop-point.invariant

pub returns-clause-value : goal.returns-clause-value
returns-clause-value c =
    let typed = c.args.self.now in
    numbered-all (edges_of_step typed) _ _ typed.steps c.loop-point.point (rw c.steps-step-items.ensures.value at c.loop-point-test.false) c.loop-point.invariant
