use Rattle.std.proofs.Common.{◌+◌, List, arith, get_or, sym, subst, ◌∙◌}
use Rattle.std.specs.List.{Contains}
use Rattle.std.proofs.lemmas.List.{take_all}
use Rattle.bc_flow.specs.declared.graph.Edge.{Edge}
use Rattle.bc_flow.proofs.Chains.{skipped, first_is, next_is}
use Rattle.bc_flow.proofs.Membership.{Contains-nil}
use Rattle.bc_loans.proofs.Sweeping.{target_more}
use Rattle.bc_loans.proofs.Telling.{IsInserted, IsInserted-from, IsInserted-kept}
use Rattle.bc_loans.proofs.sweeps.reach_from.Goals as goal

pub loop-at-init : goal.loop-at-init
loop-at-init c =
    let is = first_is _ _ _ _ c.args.point c.index-at.result.now c.args.flow.now.chained c.requires.point c.index-at.ensures in
    record {
      set = c.requires.set;
      kept = λ n h. h;
      within = is.within;
      leaves = is.leaves;
      targets = λ n e. absurd (Contains-nil (record { from = c.args.point; to = n }) ((skipped c.args.flow.now.edges.now c.args.point 0 c.index-at.result.now is n).1 e));
    }

pub insert-new-requires-clause-element : goal.insert-new-requires-clause-element
insert-new-requires-clause-element c =
    let none : Edge = record { from = 0; to = 0 } in
    let small = (c.args.flow.now.within c.loop-at.at none c.loop-at-test.true).1 in
    omega (arith, small, c.loop-at.invariant.set.size)

pub loop-at-smaller : goal.loop-at-smaller
loop-at-smaller c =
    let is = next_is _ _ _ _ c.args.point c.loop-at.at c.index-at-in-loop-at.result.now c.args.flow.now.chained c.loop-at-test.true (c.loop-at.invariant.leaves c.loop-at-test.true) c.index-at-in-loop-at.ensures in
    omega (arith, is.onward, is.within)

pub loop-at-preserved : goal.loop-at-preserved
loop-at-preserved c =
    let none : Edge = record { from = 0; to = 0 } in
    let invariant = c.loop-at.invariant in
    let e : Edge = get_or c.args.flow.now.edges.now c.loop-at.at none in
    let small = (c.args.flow.now.within c.loop-at.at none c.loop-at-test.true).1 in
    let is = next_is _ _ _ _ c.args.point c.loop-at.at c.index-at-in-loop-at.result.now c.args.flow.now.chained c.loop-at-test.true (invariant.leaves c.loop-at-test.true) c.index-at-in-loop-at.ensures in
    let inserted : IsInserted c.loop-at.reached c.insert-new.new.self 0 e.to =
    IsInserted-from c.loop-at.reached c.insert-new.new.self 0 e.to (omega (arith, small, invariant.set.size)) c.insert-new.ensures.rows c.insert-new.ensures.others c.insert-new.ensures.size c.insert-new.ensures.set in
    let stays = IsInserted-kept c.loop-at.reached c.insert-new.new.self 0 e.to inserted 0 in
    record {
      set = record { some = omega (arith, invariant.set.some, c.insert-new.ensures.rows); size = c.insert-new.ensures.size ∙ invariant.set.size };
      kept = λ n h. stays n (invariant.kept n h);
      within = is.within;
      leaves = is.leaves;
      targets = λ n edge. target_more c.args.flow.now.edges.now c.args.point c.loop-at.at c.loop-at.reached c.insert-new.new.self c.loop-at-test.true stays inserted.there invariant.targets n
          ((skipped c.args.flow.now.edges.now c.args.point (c.loop-at.at + 1) c.index-at-in-loop-at.result.now is n).1 edge);
    }

pub returns-clause-reached : goal.returns-clause-reached
returns-clause-reached c = λ n edge. c.loop-at.invariant.targets n (subst (λ (some : List Edge). Contains some (record { from = c.args.point; to = n })) (sym (take_all c.loop-at.at c.args.flow.now.edges.now (omega (arith, c.loop-at-test.false)))) edge)
