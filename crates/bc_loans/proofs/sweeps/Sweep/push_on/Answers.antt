use Rattle.std.proofs.Common.{◌≡◌, ◌+◌, take, arith, get_or}
use Rattle.std.proofs.lemmas.List.{take_more, take_all}
use Rattle.bc_flow.specs.declared.graph.Edge.{Edge}
use Rattle.bc_flow.specs.Packed.{word_has}
use Rattle.bc_flow.proofs.Chains.{skipped, first_is, next_is}
use Rattle.bc_loans.specs.Flows.{inside}
use Rattle.bc_loans.proofs.Sweeping.{ArePushed-none, ArePushed-same, ArePushed-more}
use Rattle.bc_loans.proofs.sweeps.Sweep.push_on.Goals as goal

pub loop-at-init : goal.loop-at-init
loop-at-init c =
    let is = first_is _ _ _ _ c.args.point c.index-at.result.now c.args.flow.now.chained c.requires.point c.index-at.ensures in
    record {
      sweep = c.requires.sweep;
      within = is.within;
      leaves = is.leaves;
      pushed = ArePushed-same c.args.point _ _ _ _ _ _ _ (skipped c.args.flow.now.edges.now c.args.point 0 c.index-at.result.now is) (ArePushed-none c.args.point (word_has c.args.word c.args.here) (inside c.args.flow.now) c.args.self.now.rows);
    }

pub enter-again-requires : goal.enter-again-requires
enter-again-requires c =
    let none : Edge = record { from = 0; to = 0 } in
    let small = (c.args.flow.now.within c.loop-at.at none c.loop-at-test.true).1 in
    record {
      word = c.requires.word;
      to = small;
      clean = c.requires.clean;
      sweep = c.loop-at.invariant.sweep;
    }

pub loop-at-smaller : goal.loop-at-smaller
loop-at-smaller c =
    let is = next_is _ _ _ _ c.args.point c.loop-at.at c.index-at-in-loop-at.result.now c.args.flow.now.chained c.loop-at-test.true (c.loop-at.invariant.leaves c.loop-at-test.true) c.index-at-in-loop-at.ensures in
    omega (arith, is.onward, is.within)

pub loop-at-preserved : goal.loop-at-preserved
loop-at-preserved c =
    let none : Edge = record { from = 0; to = 0 } in
    let edges = c.args.flow.now.edges.now in
    let e : Edge = get_or edges c.loop-at.at none in
    let own : e.from ≡ c.args.point = c.loop-at.invariant.leaves c.loop-at-test.true none in
    let is = next_is _ _ _ _ c.args.point c.loop-at.at c.index-at-in-loop-at.result.now c.args.flow.now.chained c.loop-at-test.true (c.loop-at.invariant.leaves c.loop-at-test.true) c.index-at-in-loop-at.ensures in
    record {
      sweep = c.enter-again.ensures.sweep;
      within = is.within;
      leaves = is.leaves;
      pushed = ArePushed-same c.args.point _ _ _ _ _ _ _ (skipped edges c.args.point (c.loop-at.at + 1) c.index-at-in-loop-at.result.now is)
          (rw (take_more edges c.loop-at.at none c.loop-at-test.true)
          (ArePushed-more c.args.point (take c.loop-at.at edges) e (word_has c.args.word c.args.here) (inside c.args.flow.now) c.loop-at.again c.enter-again.result c.args.self.now.rows c.loop-at.self.rows c.enter-again.new.self.rows c.loop-at.invariant.pushed (rw own at c.enter-again.ensures.pushed)));
    }

pub returns : goal.returns
returns c =
    let invariant = c.loop-at.invariant in
    record {
      sweep = invariant.sweep;
      pushed = rw (take_all c.loop-at.at c.args.flow.now.edges.now (omega (arith, c.loop-at-test.false))) at invariant.pushed;
    }
