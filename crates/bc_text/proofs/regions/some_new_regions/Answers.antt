use Rattle.std.proofs.Common.{rules, arith, refl, sym, ◌∙◌}
use Rattle.std.proofs.lemmas.Grind.{common_steps}
use Rattle.std.proofs.lemmas.List.{length_push}
use Rattle.bc_tokens.specs.Parser.{declared_turn}
use Rattle.bc_text.proofs.Turns.{items_go, items_stop}
use Rattle.bc_text.proofs.regions.some_new_regions.Goals as goal

pub returns-in_err-name : goal.returns-in_err-name
unfolding declared_turn
returns-in_err-name c =
    let turn = items_go _ _ _ _ _ _ c.loop-turn-test.true c.loop-turn.invariant.0 in
    first_of (search rules, grind (arith, common_steps))

pub returns-then-not-eat : goal.returns-then-not-eat
unfolding declared_turn
returns-then-not-eat c =
    let turn = items_go _ _ _ _ _ _ c.loop-turn-test.true c.loop-turn.invariant.0 in
    first_of (search rules, grind (arith, common_steps))

pub loop-turn-preserved : goal.loop-turn-preserved
unfolding declared_turn
loop-turn-preserved c =
    let turn = items_go _ _ _ _ _ _ c.loop-turn-test.true c.loop-turn.invariant.0 in
    let name = rw c.as_slice.ensures at (c.in_ok-name.ensures {u = tt}) in
    let more = c.if-not-eat.ensures {u = tt} in
    let pushed = (c.in_ok-push.ensures {u = tt}).ok in
    (turn ∙ rw (name, sym more.found, sym more.after, pushed) refl, rw pushed (omega (arith, length_push c.loop-turn.found c.in_ok-name.name, c.loop-turn.invariant.1)))

pub returns : goal.returns
returns c =
    let stop = items_stop _ _ _ _ _ _ c.loop-turn-test.false c.loop-turn.invariant.0 in
    first_of (search rules, grind (arith, common_steps))
