use Rattle.std.proofs.Common.{◌≡◌, ◌+◌, ◌<◌, [], length, arith, get_or, sym, ◌∙◌}
use Rattle.std.proofs.lemmas.List.{take_more, take_all}
use Rattle.bc_flow.specs.declared.graph.Edge.{Edge}
use Rattle.bc_flow.proofs.Chains.{skipped, first_is, next_is}
use Rattle.bc_flow.proofs.Spreads.{Spreads-none, Spreads-same, Spreads-more}
use Rattle.bc_flow.proofs.reach.spread.Goals as goal

pub loop-at-init : goal.loop-at-init
loop-at-init c =
    let is = first_is _ _ _ _ c.args.from.node c.index-at.result.now c.requires.chains c.requires.node c.index-at.ensures in
    record {
      count = grind arith;
      sizes = c.requires.rows;
      pending = c.requires.pending;
      within = is.within;
      leaves = is.leaves;
      spreads = Spreads-same c.args.from.node _ _ _ _ _ _ _ _ (skipped c.args.edges.now c.args.from.node 0 c.index-at.result.now is) (Spreads-none c.args.from.node _ _ c.args.rows.now c.args.pending.now.items);
    }

pub loop-at-smaller : goal.loop-at-smaller
loop-at-smaller c =
    let is = next_is _ _ _ _ c.args.from.node c.loop-at.at c.index-at-in-loop-at.result.now c.requires.chains c.loop-at-test.true (c.loop-at.invariant.leaves c.loop-at-test.true) c.index-at-in-loop-at.ensures in
    omega (arith, is.onward, is.within)

pub loop-at-preserved : goal.loop-at-preserved
loop-at-preserved c =
    let none : Edge = record { from = 0; to = 0 } in
    let e : Edge = get_or c.args.edges.now c.loop-at.at none in
    let own : e.from ≡ c.args.from.node = c.loop-at.invariant.leaves c.loop-at-test.true none in
    let inside : e.to < length c.loop-at.rows = omega (arith, (c.requires.edges c.loop-at.at none c.loop-at-test.true).1, c.loop-at.invariant.count) in
    let is = next_is _ _ _ _ c.args.from.node c.loop-at.at c.index-at-in-loop-at.result.now c.requires.chains c.loop-at-test.true (c.loop-at.invariant.leaves c.loop-at-test.true) c.index-at-in-loop-at.ensures in
    record {
      count = grind arith;
      sizes = λ k d h. c.in_ok-enter.ensures.rows k d h ∙ c.loop-at.invariant.sizes e.to [] inside;
      pending = rw c.loop-at.invariant.count at c.in_ok-enter.ensures.pending;
      within = is.within;
      leaves = is.leaves;
      spreads = Spreads-same c.args.from.node _ _ _ _ _ _ _ _ (skipped c.args.edges.now c.args.from.node (c.loop-at.at + 1) c.index-at-in-loop-at.result.now is)
          (rw (take_more c.args.edges.now c.loop-at.at none c.loop-at-test.true) (Spreads-more c.args.from.node _ _ _ e _ _ _ _ _ _ c.loop-at.invariant.spreads (rw own at c.in_ok-enter.ensures.spreads)));
    }

pub enter-requires : goal.enter-requires
enter-requires c =
    let none : Edge = record { from = 0; to = 0 } in
    let e : Edge = get_or c.args.edges.now c.loop-at.at none in
    let invariant = c.loop-at.invariant in
    let within = c.requires.edges c.loop-at.at none c.loop-at-test.true in
    let to : e.to < length c.loop-at.rows = omega (arith, within.1, invariant.count) in
    let size = invariant.sizes e.to [] to in
    record {
      to = to;
      fact = omega (arith, c.requires.fact, size);
      rows = λ k d h. invariant.sizes k d h ∙ sym size;
      pending = rw invariant.count invariant.pending;
    }

pub returns : goal.returns
returns c =
    let invariant = c.loop-at.invariant in
    record {
      nodes = invariant.count;
      rows = invariant.sizes;
      pending = invariant.pending;
      spreads = rw (take_all c.loop-at.at c.args.edges.now c.loop-at-test.false) at invariant.spreads;
    }
