use Rattle.std.proofs.Common.{arith, rules, ◌≡◌, ◌∙◌}
use Rattle.cli_file.specs.Changes.{seen}
use Rattle.cli_check.specs.Run.{error_lines}
use Rattle.cli_check.proofs.Performing.{making_none, making_more, making_part, owes_last, same_refused, same_stop}
use Rattle.cli_check.proofs.command.make_changes.Goals as goal

pub loop-change-preserved : goal.loop-change-preserved
loop-change-preserved g c = record {
  made = rw c.max-status.ensures (making_more _ _ _ _ _ _ _ _ _ _ _ _ _ _ c.loop-change.invariant.made c.in-Some.ensures.steps.0 c.in_ok-make_change.ensures.performed);
  range = omega (arith, c.max-status.ensures, c.in_ok-make_change.ensures.range, c.loop-change.invariant.range);
}

pub loop-change-init : goal.loop-change-init
loop-change-init g c =
    let same : c.into_iter-change-iterator.result.rest.items ≡ c.args.changes.items = search rules in
    record { made = making_none seen _ _ error_lines _ _ same; range = omega arith }

pub returns-in_err-make_change-clause-refused : goal.returns-in_err-make_change-clause-refused
returns-in_err-make_change-clause-refused g c = same_refused c.from_residual.result c.in_err-make_change.field-0.0 c.from_residual.ensures.1 (λ e. (
    let kept = c.in_err-make_change.ensures.refused e in
    making_part seen _ _ error_lines _ _ _ _ _ _ _ c.loop-change.invariant.made kept.0 kept.1
    ))

pub returns-in_err-make_change-clause-untold : goal.returns-in_err-make_change-clause-untold
returns-in_err-make_change-clause-untold g c e =
    owes_last seen _ _ _ _ error_lines _ _ _ _ _ _ c.loop-change.invariant.made c.in-Some.ensures.steps.0 (c.in_err-make_change.ensures.untold (same_stop _ _ _ c.from_residual.ensures.1 e))

pub returns-in_err-make_change-clause-still : goal.returns-in_err-make_change-clause-still
returns-in_err-make_change-clause-still g c = (c.in_err-make_change.ensures.still.0 ∙ c.loop-change.invariant.made.performed.adds.tag, c.in_err-make_change.ensures.still.1 ∙ c.loop-change.invariant.made.performed.adds.number)
