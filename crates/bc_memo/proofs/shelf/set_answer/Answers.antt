use Rattle.std.proofs.Common.{◌∙◌, ap, subst, set}
use Rattle.bc_names.specs.Names.{NameParts}
use Rattle.bc_memo.specs.declared.place.Place.{Place}
use Rattle.bc_memo.specs.Places.{Places, with_answer, IsFoundAt}
use Rattle.bc_memo.proofs.Marking.{answered_found, answered_missed}
use Rattle.bc_memo.proofs.shelf.set_answer.Goals as goal

pub returns-in-Ok-clause-places : goal.returns-in-Ok-clause-places
returns-in-Ok-clause-places c =
    let ps = c.args.places.now.items in
    let x : NameParts × Place = c.index_mut.result.now in
    let f : IsFoundAt ps c.args.name.now c.in-Ok.place = subst (λ (l : Places). IsFoundAt l c.args.name.now c.in-Ok.place) c.deref.ensures.value c.in-Ok.ensures.found in
    ap (λ (p : NameParts × Place). set ps c.in-Ok.place (p.0, with_answer p.1 c.args.answer)) c.index_mut.ensures.value
    ∙ answered_found ps c.args.name.now c.args.answer c.in-Ok.place x c.requires f.within f.above f.at

pub returns-in_default-clause-places : goal.returns-in_default-clause-places
returns-in_default-clause-places c =
    let f = c.in_default.ensures.missed in
    rw (← c.deref.ensures.value) (answered_missed _ c.args.name.now c.args.answer c.in_default.field-0 f.above f.below)
