use Rattle.std.proofs.Common.{◌≡◌, take, arith, get_or}
use Rattle.std.proofs.lemmas.List.{get_or_default, take_all}
use Rattle.bc_flow.specs.declared.graph.Edge.{Edge}
use Rattle.bc_flow.specs.Graph.{HasEdge}
use Rattle.bc_flow.proofs.Chains.{skipped, first_is, next_is}
use Rattle.bc_flow.proofs.Membership.{Contains-nil}
use Rattle.bc_flow.proofs.BreadthFirst.{GivesLevel-none, GivesLevel-edge}
use Rattle.bc_flow.proofs.breadth_first.visit.Goals as goal

pub loop-at-init : goal.loop-at-init
loop-at-init c =
    let is = first_is _ _ _ _ c.args.node c.index-at.result.now c.requires.chains c.requires.node c.index-at.ensures in
    record {
      count = grind arith;
      within = is.within;
      leaves = is.leaves;
      marks = GivesLevel-none (HasEdge (take c.index-at.result.now c.args.edges.now) c.args.node) c.args.level c.args.levels.now c.args.found.now.items
          (λ n h. absurd (Contains-nil (record { from = c.args.node; to = n }) ((skipped c.args.edges.now c.args.node 0 c.index-at.result.now is n).1 h)));
    }

pub loop-at-smaller : goal.loop-at-smaller
loop-at-smaller c =
    let is = next_is _ _ _ _ c.args.node c.loop-at.at c.index-at-in-loop-at.result.now c.requires.chains c.loop-at-test.true (c.loop-at.invariant.leaves c.loop-at-test.true) c.index-at-in-loop-at.ensures in
    omega (arith, is.onward, is.within)

pub loop-at-preserved : goal.loop-at-preserved
loop-at-preserved c =
    let none : Edge = record { from = 0; to = 0 } in
    let e : Edge = get_or c.args.edges.now c.loop-at.at none in
    let own : e.from ≡ c.args.node = c.loop-at.invariant.leaves c.loop-at-test.true none in
    let is = next_is _ _ _ _ c.args.node c.loop-at.at c.index-at-in-loop-at.result.now c.requires.chains c.loop-at-test.true (c.loop-at.invariant.leaves c.loop-at-test.true) c.index-at-in-loop-at.ensures in
    record {
      count = grind arith;
      within = is.within;
      leaves = is.leaves;
      marks = GivesLevel-edge c.args.edges.now c.args.node c.loop-at.at c.index-at-in-loop-at.result.now c.args.level e _ _ _ _ _ _ c.requires.level c.loop-at-test.true
          (get_or_default c.args.edges.now c.loop-at.at e none c.loop-at-test.true) own is c.loop-at.invariant.marks c.in_ok-reach.ensures;
    }

pub returns : goal.returns
returns c = rw (take_all c.loop-at.at c.args.edges.now c.loop-at-test.false) at c.loop-at.invariant.marks
