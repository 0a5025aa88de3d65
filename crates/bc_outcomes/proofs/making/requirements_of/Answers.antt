use Rattle.std.proofs.Common.{List, ◌∷◌, ◌+◌, drop, map, refl, sym, ap, ◌∙◌}
use Rattle.std.proofs.lemmas.List.{at_drop_more}
use Rattle.bc_cons.specs.declared.requirements.Requirements.{Requirements}
use Rattle.bc_bodies.specs.declared.children.Child.{Child}
use Rattle.bc_types.proofs.Appending.{appended-turn, appended-all}
use Rattle.bc_outcomes.proofs.making.requirements_of.Goals as goal

abbrev required : List (Child × Requirements) → List Requirements
required kids = map (λ (kid : Child × Requirements). kid.1) kids

pub loop-kid-preserved : goal.loop-kid-preserved
loop-kid-preserved c =
    let kids = c.args.kids.now in
    let i = c.loop-kid.kid-index in
    let grown = rw c.in_ok-copy_requirements.ensures at c.in_ok-push.ensures.items in
    let one = at_drop_more required kids i c.kid-item.result c.loop-kid-test.true ∙ ap (λ kid. required (kid ∷ drop (i + 1) kids)) (sym c.kid-item.is) in
    appended-turn required _ _ kids i _ _ grown one c.loop-kid.invariant

pub returns : goal.returns
returns c = appended-all required _ _ c.args.kids.now c.loop-kid.kid-index c.loop-kid-test.false refl c.loop-kid.invariant
