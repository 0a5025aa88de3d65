use Rattle.std.proofs.Common.{arith, ◌≡◌, ◌∙◌}
use Rattle.bc_calls.specs.declared.call.Call.TheVariants.{Ask}
use Rattle.cli_check.specs.Run.{shown}
use Rattle.cli_check.proofs.Performing.{making_none, making_more, making_part, same_refused}
use Rattle.cli_check.proofs.command.make_asks.Goals as goal

pub loop-name-init : goal.loop-name-init
loop-name-init g c =
    let same : c.into_iter-name-iterator.result ≡ c.args.asking.now.names.now.keys = c.into_iter-name-iterator.ensures.into_iter_gives.0 in
    record { made = making_none Ask _ _ (shown c.args.asking.now.form.now) _ _ same; range = omega arith }

pub loop-name-preserved : goal.loop-name-preserved
loop-name-preserved g c = record {
  made = rw c.max-status.ensures (making_more _ _ _ _ _ _ _ _ _ _ _ _ _ _ c.loop-name.invariant.made c.in-Some.ensures.steps c.in_ok-asked.ensures.performed);
  range = omega (arith, c.max-status.ensures, c.in_ok-asked.ensures.range, c.loop-name.invariant.range);
}

pub returns-in_err-asked-clause-refused : goal.returns-in_err-asked-clause-refused
returns-in_err-asked-clause-refused g c = same_refused c.from_residual.result c.in_err-asked.field-0.0 c.from_residual.ensures.1 (λ e. (
    let kept = c.in_err-asked.ensures.refused e in
    making_part Ask _ _ (shown c.args.asking.now.form.now) _ _ _ _ _ _ _ c.loop-name.invariant.made kept.0 kept.1
    ))

pub returns-in_err-asked-clause-still : goal.returns-in_err-asked-clause-still
returns-in_err-asked-clause-still g c = (c.in_err-asked.ensures.still.0 ∙ c.loop-name.invariant.made.performed.adds.tag, c.in_err-asked.ensures.still.1 ∙ c.loop-name.invariant.made.performed.adds.number)
