use Rattle.std.proofs.Common.{not, filter, refl, sym, ap, ◌∙◌}
use Rattle.bc_types.proofs.Appending.{appended-all}
use Rattle.bc_cons.specs.Constraints.{differ}
use Rattle.bc_cons.proofs.Keeping.{kept-turn, left-turn}
use Rattle.bc_cons.proofs.body.differing.Goals as goal
use Rattle.bc_cons.proofs.body.differing.Goals.{then-not-is_same_region+in_ok-push, else-not-is_same_region}

pub loop-pair-preserved : goal.loop-pair-preserved
loop-pair-preserved c =
    let pairs = c.args.pairs.now in
    let i = c.loop-pair.pair-index in
    elim c.if-not-is_same_region.branch [
      | then-not-is_same_region+in_ok-push w ↦ rw w.kept-is (kept-turn differ _ _ pairs i _ c.loop-pair-test.true _ w.in_ok-push.ensures.items (ap not (sym c.is_same_region.ensures ∙ w.if-not-is_same_region.true)) c.loop-pair.invariant)
      | else-not-is_same_region w ↦ rw w.kept-is (left-turn differ _ _ pairs i _ c.loop-pair-test.true (ap not (sym c.is_same_region.ensures ∙ w.if-not-is_same_region.false)) c.loop-pair.invariant)
    ]

pub returns : goal.returns
returns c = appended-all (filter differ) _ _ c.args.pairs.now c.loop-pair.pair-index c.loop-pair-test.false refl c.loop-pair.invariant
