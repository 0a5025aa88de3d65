use Rattle.std.proofs.Common.{rules, arith, refl, sym, ◌∙◌}
use Rattle.std.proofs.lemmas.Grind.{common_steps}
use Rattle.std.proofs.lemmas.List.{length_push}
use Rattle.bc_text.specs.Reading.{projections_from, projections_turn}
use Rattle.bc_text.proofs.Turns.{one_more, no_more, projections_go, projections_stop}
use Rattle.bc_text.proofs.places.some_projections.Goals as goal

pub returns-then-not-eat : goal.returns-then-not-eat
unfolding projections_turn
returns-then-not-eat c =
    let turn = one_more (λ n. projections_from n c.loop-turn.found c.loop-turn.cursor) 8 c.loop-turn._turn c.loop-turn-test.true c.loop-turn.invariant.0 ∙ projections_go _ _ _ in
    first_of (search rules, grind (arith, common_steps))

pub returns-in_err-projection : goal.returns-in_err-projection
unfolding projections_turn
returns-in_err-projection c =
    let turn = one_more (λ n. projections_from n c.loop-turn.found c.loop-turn.cursor) 8 c.loop-turn._turn c.loop-turn-test.true c.loop-turn.invariant.0 ∙ projections_go _ _ _ in
    first_of (search rules, grind (arith, common_steps))

pub loop-turn-preserved : goal.loop-turn-preserved
unfolding projections_turn
loop-turn-preserved c =
    let turn = one_more (λ n. projections_from n c.loop-turn.found c.loop-turn.cursor) 8 c.loop-turn._turn c.loop-turn-test.true c.loop-turn.invariant.0 ∙ projections_go _ _ _ in
    let more = c.if-not-eat.ensures {u = tt} in (
      turn ∙ rw (sym more.found, sym more.after, c.in_ok-projection.ensures {u = tt}, c.push.ensures) refl,
      rw c.push.ensures (omega (arith, length_push c.loop-turn.found c.in_ok-projection.field-0, c.loop-turn.invariant.1)),
    )

pub returns : goal.returns
returns c =
    let stop = no_more (λ n. projections_from n c.loop-turn.found c.loop-turn.cursor) 8 c.loop-turn._turn c.loop-turn-test.false c.loop-turn.invariant.0 ∙ projections_stop _ _ in
    first_of (search rules, grind (arith, common_steps))

pub returns-then-sees : goal.returns-then-sees
returns-then-sees c =
    let stop = no_more (λ n. projections_from n c.loop-turn.found c.loop-turn.cursor) 8 c.loop-turn._turn c.loop-turn-test.false c.loop-turn.invariant.0 ∙ projections_stop _ _ in
    first_of (search rules, grind (arith, common_steps))
