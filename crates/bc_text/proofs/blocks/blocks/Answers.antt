use Rattle.std.proofs.Common.{ℕ, ◌+◌, ◌-◌, [], ◌∷◌, ◌++◌, rules, arith, refl, sym, ap, ◌∙◌}
use Rattle.std.proofs.lemmas.Grind.{common_steps}
use Rattle.std.proofs.lemmas.List.{length_push}
use Rattle.bc_text.specs.Reading.{blocks_from, blocks_turn}
use Rattle.bc_text.proofs.Turns.{one_more, no_more, blocks_go, blocks_stop}
use Rattle.bc_text.proofs.blocks.blocks.Goals as goal

pub returns-then-not-sees_numbered : goal.returns-then-not-sees_numbered
returns-then-not-sees_numbered c =
    let turn = one_more (λ n. blocks_from c.args.regions.now c.args.locals n c.loop-turn.left c.loop-turn.found c.loop-turn.cursor) 256 c.loop-turn._turn c.loop-turn-test.true c.loop-turn.invariant.0 ∙ blocks_go _ _ _ _ _ _ in
    turn ∙ rw (sym (c.if-not-sees_numbered.ensures {u = tt})) refl

pub returns-in_err-block : goal.returns-in_err-block
unfolding blocks_turn
returns-in_err-block c =
    let turn = one_more (λ n. blocks_from c.args.regions.now c.args.locals n c.loop-turn.left c.loop-turn.found c.loop-turn.cursor) 256 c.loop-turn._turn c.loop-turn-test.true c.loop-turn.invariant.0 ∙ blocks_go _ _ _ _ _ _ in
    first_of (search rules, grind (arith, common_steps))

pub loop-turn-preserved : goal.loop-turn-preserved
unfolding blocks_turn
loop-turn-preserved c =
    let turn = one_more (λ n. blocks_from c.args.regions.now c.args.locals n c.loop-turn.left c.loop-turn.found c.loop-turn.cursor) 256 c.loop-turn._turn c.loop-turn-test.true c.loop-turn.invariant.0 ∙ blocks_go _ _ _ _ _ _ in
    let pushed = (c.in_ok-push-2.ensures {u = tt}).ok in (
      turn ∙ rw (sym (c.if-not-sees_numbered.ensures {u = tt}), sym c.len-in-loop-turn.ensures, (c.in_ok-block.ensures {u = tt}).reads, pushed)
          (ap (λ (left : ℕ). blocks_from c.args.regions.now c.args.locals (256 - (c.loop-turn._turn + 1)) left (c.loop-turn.found ++ c.in_ok-block.block ∷ []) c.block-in-loop-turn.new.cursor) (omega arith)),
      rw pushed (omega (arith, length_push c.loop-turn.found c.in_ok-block.block, c.loop-turn.invariant.1)),
      omega (arith, c.loop-turn.invariant.2),
    )

pub returns : goal.returns
returns c =
    let stop = no_more (λ n. blocks_from c.args.regions.now c.args.locals n c.loop-turn.left c.loop-turn.found c.loop-turn.cursor) 256 c.loop-turn._turn c.loop-turn-test.false c.loop-turn.invariant.0 ∙ blocks_stop _ _ _ _ _ in
    first_of (search rules, grind (arith, common_steps))
