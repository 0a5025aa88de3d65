use Rattle.std.proofs.Common.{refl, ◌∙◌}
use Rattle.std.proofs.lemmas.List.{at_drop_more}
use Rattle.bc_live.proofs.Appending.{appended-turn, appended-all}
use Rattle.bc_live.specs.Entries.{entries_at}
use Rattle.bc_reasons.proofs.paths.push_entries.Goals as goal

pub loop-local-preserved : goal.loop-local-preserved
loop-local-preserved c =
    let each = entries_at c.args.point in
    appended-turn (λ _. each) _ _ c.args.locals.now c.loop-local.local-index _ _ c.in_ok-push.ensures.items (at_drop_more each _ _ 0 c.loop-local-test.true ∙ (cc)) c.loop-local.invariant

pub returns : goal.returns
returns c = appended-all (λ _. entries_at c.args.point) _ _ c.args.locals.now c.loop-local.local-index c.loop-local-test.false refl c.loop-local.invariant
