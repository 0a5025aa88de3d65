use Rattle.std.proofs.Common.{rules, arith, ◌∙◌}
use Rattle.std.proofs.lemmas.Grind.{common_steps}
use Rattle.bc_text.specs.Reading.{fields_from, fields_turn}
use Rattle.bc_text.proofs.Turns.{one_more, no_more, fields_go, fields_stop}
use Rattle.bc_text.proofs.declarations.some_fields.Goals as goal

pub returns-then-not-begins_ty : goal.returns-then-not-begins_ty
unfolding fields_turn
returns-then-not-begins_ty c =
    let turn = one_more (λ n. fields_from c.args.regions.now n c.loop-turn.found c.loop-turn.cursor) 16 c.loop-turn._turn c.loop-turn-test.true c.loop-turn.invariant ∙ fields_go _ _ _ _ in
    first_of (search rules, grind (arith, common_steps))

pub returns-in_err-ty : goal.returns-in_err-ty
unfolding fields_turn
returns-in_err-ty c =
    let turn = one_more (λ n. fields_from c.args.regions.now n c.loop-turn.found c.loop-turn.cursor) 16 c.loop-turn._turn c.loop-turn-test.true c.loop-turn.invariant ∙ fields_go _ _ _ _ in
    first_of (search rules, grind (arith, common_steps))

pub returns-in_err-expect : goal.returns-in_err-expect
unfolding fields_turn
returns-in_err-expect c =
    let turn = one_more (λ n. fields_from c.args.regions.now n c.loop-turn.found c.loop-turn.cursor) 16 c.loop-turn._turn c.loop-turn-test.true c.loop-turn.invariant ∙ fields_go _ _ _ _ in
    first_of (search rules, grind (arith, common_steps))

pub loop-turn-preserved : goal.loop-turn-preserved
unfolding fields_turn
loop-turn-preserved c =
    let turn = one_more (λ n. fields_from c.args.regions.now n c.loop-turn.found c.loop-turn.cursor) 16 c.loop-turn._turn c.loop-turn-test.true c.loop-turn.invariant ∙ fields_go _ _ _ _ in
    first_of (search rules, grind (arith, common_steps))

pub returns : goal.returns
returns c =
    let stop = no_more (λ n. fields_from c.args.regions.now n c.loop-turn.found c.loop-turn.cursor) 16 c.loop-turn._turn c.loop-turn-test.false c.loop-turn.invariant ∙ fields_stop _ _ _ in
    first_of (search rules, grind (arith, common_steps))

pub returns-then-begins_ty : goal.returns-then-begins_ty
returns-then-begins_ty c =
    let stop = no_more (λ n. fields_from c.args.regions.now n c.loop-turn.found c.loop-turn.cursor) 16 c.loop-turn._turn c.loop-turn-test.false c.loop-turn.invariant ∙ fields_stop _ _ _ in
    first_of (search rules, grind (arith, common_steps))
