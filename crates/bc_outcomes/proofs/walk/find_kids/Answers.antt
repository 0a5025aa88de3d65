use Rattle.std.proofs.Common.{refl, sym, ap, ◌∙◌}
use Rattle.std.specs.Option.{option_copied}
use Rattle.bc_outcomes.specs.Visits.{state_in}
use Rattle.bc_outcomes.proofs.Gathering.{gathers_all, gathers_more, kid_found}
use Rattle.bc_outcomes.proofs.walk.find_kids.Goals as goal

pub loop-number-preserved : goal.loop-number-preserved
loop-number-preserved c =
    let state = state_in c.args.checked.now in
    rw c.in_ok-push-in-Some.ensures.items
    (gathers_more state c.args.name c.args.numbers.now c.loop-number.number-index c.loop-number.kids.items _ c.loop-number-test.true
    (kid_found state c.args.name _ c.unwrap-child.result _ c.requires.suited (sym c.unwrap-child.ensures ∙ c.child.ensures) refl (sym c.unit.ensures.unit ∙ ap option_copied c.in-Some.is)) c.loop-number.invariant)

pub returns : goal.returns
returns c = gathers_all _ _ _ c.loop-number.number-index _ c.loop-number-test.false c.loop-number.invariant
