use Rattle.std.proofs.Common.{rules, arith, refl, ◌∙◌}
use Rattle.std.proofs.lemmas.Grind.{common_steps}
use Rattle.std.proofs.lemmas.List.{length_push}
use Rattle.bc_text.specs.Reading.{block_from, block_turn}
use Rattle.bc_text.proofs.Turns.{one_more, no_more, block_goes, block_stops}
use Rattle.bc_text.proofs.blocks.points.Goals as goal

pub returns-in_err-terminator-clause-reads : goal.returns-in_err-terminator-clause-reads
unfolding block_turn
returns-in_err-terminator-clause-reads c =
    let turn = one_more (λ n. block_from c.args.regions.now c.args.locals n c.loop-turn.statements c.loop-turn.cursor) c.args.left c.loop-turn._turn c.loop-turn-test.true c.loop-turn.invariant.0 ∙ block_goes _ _ _ _ _ in
    first_of (search rules, grind (arith, common_steps))

pub returns-in-Terminator-clause-reads : goal.returns-in-Terminator-clause-reads
unfolding block_turn
returns-in-Terminator-clause-reads c =
    let turn = one_more (λ n. block_from c.args.regions.now c.args.locals n c.loop-turn.statements c.loop-turn.cursor) c.args.left c.loop-turn._turn c.loop-turn-test.true c.loop-turn.invariant.0 ∙ block_goes _ _ _ _ _ in
    turn ∙ rw (c.in_ok-terminator.ensures {u = tt}, c.in-Terminator.is) refl

pub returns-in_err-expect-in-Statement-clause-reads : goal.returns-in_err-expect-in-Statement-clause-reads
unfolding block_turn
returns-in_err-expect-in-Statement-clause-reads c =
    let turn = one_more (λ n. block_from c.args.regions.now c.args.locals n c.loop-turn.statements c.loop-turn.cursor) c.args.left c.loop-turn._turn c.loop-turn-test.true c.loop-turn.invariant.0 ∙ block_goes _ _ _ _ _ in
    first_of (search rules, grind (arith, common_steps))

pub loop-turn-preserved : goal.loop-turn-preserved
unfolding block_turn
loop-turn-preserved c =
    let turn = one_more (λ n. block_from c.args.regions.now c.args.locals n c.loop-turn.statements c.loop-turn.cursor) c.args.left c.loop-turn._turn c.loop-turn-test.true c.loop-turn.invariant.0 ∙ block_goes _ _ _ _ _ in
    let pushed = (c.in_ok-push-in-Statement.ensures {u = tt}).ok in (
      turn ∙ rw (c.in_ok-terminator.ensures {u = tt}, c.in-Statement.is, (c.in_ok-expect-in-Statement.ensures {u = tt}).reads, pushed) refl,
      rw pushed (omega (arith, length_push c.loop-turn.statements c.in-Statement.statement, c.loop-turn.invariant.1)),
    )

pub returns-clause-reads : goal.returns-clause-reads
returns-clause-reads c =
    let stop = no_more (λ n. block_from c.args.regions.now c.args.locals n c.loop-turn.statements c.loop-turn.cursor) c.args.left c.loop-turn._turn c.loop-turn-test.false c.loop-turn.invariant.0 ∙ block_stops _ _ _ _ in
    first_of (search rules, grind (arith, common_steps))
