use Rattle.std.proofs.Common.{rules, arith, refl, ◌∙◌, sym}
use Rattle.std.proofs.lemmas.Grind.{common_steps}
use Rattle.std.proofs.lemmas.List.{length_push}
use Rattle.bc_tokens.specs.Parser.{declared_turn}
use Rattle.bc_text.proofs.Turns.{items_go, items_stop}
use Rattle.bc_text.proofs.DeclarationLaws.{zip_push}
use Rattle.bc_text.proofs.declarations.some_marks.Goals as goal

pub returns-in_err-variance-clause-reads : goal.returns-in_err-variance-clause-reads
unfolding declared_turn
returns-in_err-variance-clause-reads c =
    let turn = items_go _ _ _ _ _ _ c.loop-turn-test.true c.loop-turn.invariant.0 in
    first_of (search rules, grind (arith, common_steps))

pub returns-then-not-eat-clause-reads : goal.returns-then-not-eat-clause-reads
unfolding declared_turn
returns-then-not-eat-clause-reads c =
    let turn = items_go _ _ _ _ _ _ c.loop-turn-test.true c.loop-turn.invariant.0 in
    let push = zip_push c.loop-turn.found.variances c.loop-turn.found.regions c.in_ok-variance.variance c.in_ok-variance.region (c.loop-turn.invariant.2 ∙ sym c.loop-turn.invariant.1) in
    first_of (search rules, grind (arith, common_steps))

pub loop-turn-preserved : goal.loop-turn-preserved
unfolding declared_turn
loop-turn-preserved c =
    let turn = items_go _ _ _ _ _ _ c.loop-turn-test.true c.loop-turn.invariant.0 in
    let push = zip_push c.loop-turn.found.variances c.loop-turn.found.regions c.in_ok-variance.variance c.in_ok-variance.region (c.loop-turn.invariant.2 ∙ sym c.loop-turn.invariant.1) in
    let more = c.if-not-eat.ensures {u = tt} in
    let variances = (c.in_ok-push.ensures {u = tt}).ok in
    let regions = (c.in_ok-push-2.ensures {u = tt}).ok in (
      turn ∙ rw (c.in_ok-variance.ensures {u = tt}, sym more.found, sym more.after, variances, regions, push) refl,
      rw regions (omega (arith, length_push c.loop-turn.found.regions c.in_ok-variance.region, c.loop-turn.invariant.1)),
      rw variances (omega (arith, length_push c.loop-turn.found.variances c.in_ok-variance.variance, c.loop-turn.invariant.2)),
    )

pub returns-clause-reads : goal.returns-clause-reads
returns-clause-reads c =
    let stop = items_stop _ _ _ _ _ _ c.loop-turn-test.false c.loop-turn.invariant.0 in
    first_of (search rules, grind (arith, common_steps))

pub returns-then-not-eat-clause-lengths : goal.returns-then-not-eat-clause-lengths
returns-then-not-eat-clause-lengths c =
    let variances = (c.in_ok-push.ensures {u = tt}).ok in
    let regions = (c.in_ok-push-2.ensures {u = tt}).ok in (
      rw (variances, regions) (omega (arith, length_push c.loop-turn.found.variances c.in_ok-variance.variance, c.loop-turn.invariant.2, length_push c.loop-turn.found.regions c.in_ok-variance.region, c.loop-turn.invariant.1)),
      rw regions (omega (arith, length_push c.loop-turn.found.regions c.in_ok-variance.region, c.loop-turn.invariant.1, c.loop-turn-test.true)),
    )
