use Rattle.std.proofs.Common.{rules, arith, refl, sym, ◌∙◌}
use Rattle.std.proofs.lemmas.Grind.{common_steps}
use Rattle.std.proofs.lemmas.List.{length_push}
use Rattle.bc_tokens.specs.Parser.{declared_turn, alike}
use Rattle.bc_text.proofs.Turns.{items_go, items_stop}
use Rattle.bc_text.proofs.types.some_tys.Goals as goal

pub returns-in_err-ty : goal.returns-in_err-ty
unfolding declared_turn alike
returns-in_err-ty c =
    let turn = items_go _ _ _ _ _ _ c.loop-turn-test.true c.loop-turn.invariant.0 in
    first_of (search rules, grind (arith, common_steps))

pub returns-then-not-eat : goal.returns-then-not-eat
unfolding declared_turn alike
returns-then-not-eat c =
    let turn = items_go _ _ _ _ _ _ c.loop-turn-test.true c.loop-turn.invariant.0 in
    let more = c.if-not-eat.ensures {u = tt} in
    let pushed = (c.in_ok-push.ensures {u = tt}).ok in
    record {
      few = rw pushed (omega (arith, length_push c.loop-turn.found c.in_ok-ty.field-0, c.loop-turn.invariant.1, c.loop-turn-test.true));
      reads = turn ∙ rw (c.in_ok-ty.ensures {u = tt}, sym more.found, sym more.after, pushed) refl;
    }

pub loop-turn-preserved : goal.loop-turn-preserved
unfolding declared_turn alike
loop-turn-preserved c =
    let turn = items_go _ _ _ _ _ _ c.loop-turn-test.true c.loop-turn.invariant.0 in
    let more = c.if-not-eat.ensures {u = tt} in
    let pushed = (c.in_ok-push.ensures {u = tt}).ok in
    (turn ∙ rw (c.in_ok-ty.ensures {u = tt}, sym more.found, sym more.after, pushed) refl, rw pushed (omega (arith, length_push c.loop-turn.found c.in_ok-ty.field-0, c.loop-turn.invariant.1)))

pub returns : goal.returns
returns c =
    let stop = items_stop _ _ _ _ _ _ c.loop-turn-test.false c.loop-turn.invariant.0 in
    first_of (search rules, grind (arith, common_steps))
