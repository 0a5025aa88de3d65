use Rattle.std.proofs.Common.{arith, rules, ◌≡◌, ◌∙◌}
use Rattle.bc_calls.specs.declared.call.Call.TheVariants.{Ask}
use Rattle.cli_check.specs.Run.{shown}
use Rattle.cli_check.proofs.Performing.{making_none, making_more, making_part, same_refused}
use Rattle.cli_check.proofs.ahead.settle_asks.Goals as goal

pub loop-ask-init : goal.loop-ask-init
loop-ask-init g c =
    let same : c.into_iter-ask-iterator.result.rest.items ≡ c.args.asks.items = search rules in
    record { made = making_none Ask _ _ (shown c.args.asking.now.form.now) _ _ same; range = omega arith }

pub loop-ask-preserved : goal.loop-ask-preserved
loop-ask-preserved g c = record {
  made = rw c.max-status.ensures (making_more _ _ _ _ _ _ _ _ _ _ _ _ _ _ c.loop-ask.invariant.made c.in-Some.ensures.steps.0 c.in_ok-asked.ensures.performed);
  range = omega (arith, c.max-status.ensures, c.in_ok-asked.ensures.range, c.loop-ask.invariant.range);
}

pub returns-in_err-asked-clause-refused : goal.returns-in_err-asked-clause-refused
returns-in_err-asked-clause-refused g c = same_refused c.from_residual.result c.in_err-asked.field-0.0 c.from_residual.ensures.1 (λ e. (
    let kept = c.in_err-asked.ensures.refused e in
    making_part Ask _ _ (shown c.args.asking.now.form.now) _ _ _ _ _ _ _ c.loop-ask.invariant.made kept.0 kept.1
    ))

pub returns-in_err-asked-clause-still : goal.returns-in_err-asked-clause-still
returns-in_err-asked-clause-still g c = (c.in_err-asked.ensures.still.0 ∙ c.loop-ask.invariant.made.performed.adds.tag, c.in_err-asked.ensures.still.1 ∙ c.loop-ask.invariant.made.performed.adds.number)
