use Rattle.std.proofs.Common.{rules, arith, ◌∙◌}
use Rattle.std.proofs.lemmas.Grind.{common_steps}
use Rattle.bc_text.specs.Reading.{ty, ty_from, ty_turn}
use Rattle.bc_text.proofs.Turns.{one_more, no_more, ty_goes, ty_stops}
use Rattle.bc_text.proofs.types.ty.Goals as goal

pub returns-in_err-base : goal.returns-in_err-base
unfolding ty_turn ty
returns-in_err-base c =
    let turn = one_more (λ n. ty_from c.args.variables c.args.regions.now n c.loop-turn.references c.loop-turn.cursor) 8 c.loop-turn._turn c.loop-turn-test.true c.loop-turn.invariant ∙ ty_goes _ _ _ _ _ in
    first_of (search rules, grind (arith, common_steps))

pub returns-in_err-reference : goal.returns-in_err-reference
unfolding ty_turn ty
returns-in_err-reference c =
    let turn = one_more (λ n. ty_from c.args.variables c.args.regions.now n c.loop-turn.references c.loop-turn.cursor) 8 c.loop-turn._turn c.loop-turn-test.true c.loop-turn.invariant ∙ ty_goes _ _ _ _ _ in
    first_of (search rules, grind (arith, common_steps))

pub loop-turn-preserved : goal.loop-turn-preserved
unfolding ty_turn ty
loop-turn-preserved c =
    let turn = one_more (λ n. ty_from c.args.variables c.args.regions.now n c.loop-turn.references c.loop-turn.cursor) 8 c.loop-turn._turn c.loop-turn-test.true c.loop-turn.invariant ∙ ty_goes _ _ _ _ _ in
    first_of (search rules, grind (arith, common_steps))

pub returns : goal.returns
unfolding ty
returns c =
    let stop = no_more (λ n. ty_from c.args.variables c.args.regions.now n c.loop-turn.references c.loop-turn.cursor) 8 c.loop-turn._turn c.loop-turn-test.false c.loop-turn.invariant ∙ ty_stops _ _ _ _ in
    first_of (search rules, grind (arith, common_steps))

pub returns-then-not-eat : goal.returns-then-not-eat
unfolding ty_turn ty
returns-then-not-eat c =
    let turn = one_more (λ n. ty_from c.args.variables c.args.regions.now n c.loop-turn.references c.loop-turn.cursor) 8 c.loop-turn._turn c.loop-turn-test.true c.loop-turn.invariant ∙ ty_goes _ _ _ _ _ in
    first_of (search rules, grind (arith, common_steps))
