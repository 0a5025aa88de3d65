use Rattle.std.proofs.Common.{filter, refl, sym, ◌∙◌}
use Rattle.bc_types.proofs.Appending.{appended-all}
use Rattle.bc_judge.specs.Lifetimes.{is_required}
use Rattle.bc_judge.proofs.Turns.{kept, left}
use Rattle.bc_judge.proofs.lifetimes.requirements.Goals.{then-is_required+in_ok-push, else-is_required}
use Rattle.bc_judge.proofs.lifetimes.requirements.Goals as goal

pub loop-failure-preserved : goal.loop-failure-preserved
loop-failure-preserved c =
    let test = is_required c.args.typed.now in
    let i = c.loop-failure.failure-index in
    elim c.if-is_required.branch [
      | then-is_required+in_ok-push w ↦ rw w.pairs-is (kept test c.args.failures.now i _ _ _ c.loop-failure-test.true _ (sym c.is_required.ensures ∙ w.if-is_required.true) w.in_ok-push.ensures.ok c.loop-failure.invariant)
      | else-is_required w ↦ rw w.pairs-is (left test c.args.failures.now i _ _ _ c.loop-failure-test.true (sym c.is_required.ensures ∙ w.if-is_required.false) c.loop-failure.invariant)
    ]

pub returns : goal.returns
returns c = appended-all (filter (is_required c.args.typed.now)) _ _ c.args.failures.now c.loop-failure.failure-index c.loop-failure-test.false refl c.loop-failure.invariant
