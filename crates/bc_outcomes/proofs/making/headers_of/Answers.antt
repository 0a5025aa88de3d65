use Rattle.std.proofs.Common.{◌∷◌, ◌+◌, drop, map, refl, sym, ap, ◌∙◌}
use Rattle.std.proofs.lemmas.List.{at_drop_more}
use Rattle.bc_types.proofs.Appending.{appended-turn, appended-all}
use Rattle.bc_outcomes.specs.Reported.{kid_header}
use Rattle.bc_outcomes.proofs.making.headers_of.Goals as goal

pub loop-kid-preserved : goal.loop-kid-preserved
loop-kid-preserved c =
    let each = map kid_header in
    let kids = c.args.kids.now in
    let i = c.loop-kid.kid-index in
    let grown = rw c.in_ok-lent_again.ensures at c.in_ok-push.ensures.items in
    let one = at_drop_more each kids i c.kid-item.result c.loop-kid-test.true ∙ ap (λ kid. each (kid ∷ drop (i + 1) kids)) (sym c.kid-item.is) in
    appended-turn each _ _ kids i _ _ grown one c.loop-kid.invariant

pub returns : goal.returns
returns c = appended-all (map kid_header) _ _ c.args.kids.now c.loop-kid.kid-index c.loop-kid-test.false refl c.loop-kid.invariant
