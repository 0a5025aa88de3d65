use Rattle.std.proofs.Common.{arith, get_or}
use Rattle.bc_flow.specs.declared.graph.Edge.{Edge}
use Rattle.bc_flow.specs.Graph.{Leads}
use Rattle.bc_flow.proofs.Chains.{next_is}
use Rattle.bc_groups.proofs.Spreading.{leads_along}
use Rattle.bc_groups.proofs.components.Spread.visit.Goals.{then-classes-to+in_ok-reach, else-classes-to}
use Rattle.bc_groups.proofs.components.Spread.visit.Goals as goal

pub loop-at-smaller : goal.loop-at-smaller
loop-at-smaller c =
    let is = next_is _ _ _ _ c.args.node c.loop-at.at c.index-at-in-loop-at.result.now c.requires.chains c.loop-at-test.true (c.loop-at.invariant.leaves c.loop-at-test.true) c.index-at-in-loop-at.ensures in
    omega (arith, is.onward, is.within)

pub loop-at-preserved : goal.loop-at-preserved
loop-at-preserved c =
    let edges = c.args.edges.now in
    let old = c.loop-at.invariant in
    let none : Edge = record { from = 0; to = 0 } in
    let leaves = old.leaves c.loop-at-test.true in
    let is = next_is _ _ _ _ c.args.node c.loop-at.at c.index-at-in-loop-at.result.now c.requires.chains c.loop-at-test.true leaves c.index-at-in-loop-at.ensures in
    let led : Leads edges c.args.root (get_or edges c.loop-at.at none).to = leads_along edges c.args.root c.args.node c.loop-at.at none c.loop-at-test.true leaves c.requires.led in
    elim c.if-classes-to.branch [
      | then-classes-to+in_ok-reach w ↦ rw w.self-is (record {
        spread = w.in_ok-reach.ensures.spread edges led old.spread;
        opened = w.in_ok-reach.ensures.opened edges led old.opened;
        work = omega (arith, w.in_ok-reach.ensures.work, old.work);
        within = is.within;
        leaves = is.leaves;
      })
      | else-classes-to w ↦ rw w.self-is (record {
        spread = old.spread;
        opened = old.opened;
        work = old.work;
        within = is.within;
        leaves = is.leaves;
      })
    ]
