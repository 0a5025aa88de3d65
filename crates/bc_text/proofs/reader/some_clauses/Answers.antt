use Rattle.std.proofs.Common.{rules, arith}
use Rattle.std.proofs.lemmas.Grind.{common_steps}
use Rattle.bc_tokens.specs.Parser.{declared_turn, alike}
use Rattle.bc_text.proofs.Turns.{items_go, items_stop}
use Rattle.bc_text.proofs.reader.some_clauses.Goals as goal

pub returns-in_err-clause : goal.returns-in_err-clause
unfolding declared_turn alike
returns-in_err-clause c =
    let turn = items_go _ _ _ _ _ _ c.loop-turn-test.true c.loop-turn.invariant in
    first_of (search rules, grind (arith, common_steps))

pub returns-then-not-eat : goal.returns-then-not-eat
unfolding declared_turn alike
returns-then-not-eat c =
    let turn = items_go _ _ _ _ _ _ c.loop-turn-test.true c.loop-turn.invariant in
    first_of (search rules, grind (arith, common_steps))

pub loop-turn-preserved : goal.loop-turn-preserved
unfolding declared_turn alike
loop-turn-preserved c =
    let turn = items_go _ _ _ _ _ _ c.loop-turn-test.true c.loop-turn.invariant in
    first_of (search rules, grind (arith, common_steps))

pub returns : goal.returns
returns c =
    let stop = items_stop _ _ _ _ _ _ c.loop-turn-test.false c.loop-turn.invariant in
    first_of (search rules, grind (arith, common_steps))
