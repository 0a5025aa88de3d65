use Rattle.std.proofs.Common.{rules, arith, refl, sym, ◌∙◌}
use Rattle.std.proofs.lemmas.Grind.{common_steps}
use Rattle.std.proofs.lemmas.List.{length_push}
use Rattle.bc_text.specs.Reading.{declarations_from, declarations_turn}
use Rattle.bc_text.proofs.Turns.{one_more, no_more, declarations_go, declarations_stop}
use Rattle.bc_text.proofs.DeclarationLaws.{structs_few}
use Rattle.bc_text.proofs.declarations.declarations.Goals as goal

pub returns-then-not-begins_declaration : goal.returns-then-not-begins_declaration
unfolding declarations_turn
returns-then-not-begins_declaration c =
    let turn = one_more (λ n. declarations_from n c.loop-turn.found c.loop-turn.cursor) 129 c.loop-turn._turn c.loop-turn-test.true c.loop-turn.invariant.0 ∙ declarations_go _ _ _ in
    turn ∙ rw (sym (c.if-not-begins_declaration.ensures {u = tt})) refl

pub returns-in_err-declaration : goal.returns-in_err-declaration
unfolding declarations_turn
returns-in_err-declaration c =
    let turn = one_more (λ n. declarations_from n c.loop-turn.found c.loop-turn.cursor) 129 c.loop-turn._turn c.loop-turn-test.true c.loop-turn.invariant.0 ∙ declarations_go _ _ _ in
    first_of (search rules, grind (arith, common_steps))

pub loop-turn-preserved : goal.loop-turn-preserved
unfolding declarations_turn
loop-turn-preserved c =
    let turn = one_more (λ n. declarations_from n c.loop-turn.found c.loop-turn.cursor) 129 c.loop-turn._turn c.loop-turn-test.true c.loop-turn.invariant.0 ∙ declarations_go _ _ _ in
    let declaration = rw c.as_slice.ensures at (c.in_ok-declaration.ensures {u = tt}).reads in
    let pushed = (c.in_ok-push.ensures {u = tt}).ok in (
      turn ∙ rw (sym (c.if-not-begins_declaration.ensures {u = tt}), declaration, pushed) refl,
      rw pushed (omega (arith, length_push c.loop-turn.found c.in_ok-declaration.declaration, c.loop-turn.invariant.1)),
      first_of (search rules, grind (arith, common_steps)),
    )

pub returns : goal.returns
returns c =
    let stop = no_more (λ n. declarations_from n c.loop-turn.found c.loop-turn.cursor) 129 c.loop-turn._turn c.loop-turn-test.false c.loop-turn.invariant.0 ∙ declarations_stop _ _ in
    first_of (search rules, grind (arith, common_steps))

pub declaration-requires-clause-within : goal.declaration-requires-clause-within
declaration-requires-clause-within c =
    let few = structs_few c.loop-turn.found in
    first_of (search rules, grind (arith, common_steps))

pub overflow_add-structs : goal.overflow_add-structs
overflow_add-structs c =
    let few = structs_few c.loop-turn.found in
    first_of (search rules, grind (arith, common_steps))
