use Rattle.std.proofs.Common.{◌∙◌, ap, sym, subst}
use Rattle.bc_names.specs.Names.{NameParts}
use Rattle.bc_memo.specs.declared.place.Place.{Place}
use Rattle.bc_memo.specs.Places.{Places, IsFoundAt, IsGapAt}
use Rattle.bc_memo.proofs.Marking.{answer_found, answer_missed}
use Rattle.bc_memo.proofs.shelf.Shelf.answer.Goals as goal

pub returns-in-Ok : goal.returns-in-Ok
returns-in-Ok c =
    let ps = c.self.inside.places.items in
    let x : NameParts × Place = c.index.result.now in
    let f : IsFoundAt ps c.args.name.now c.in-Ok.place = subst (λ (l : Places). IsFoundAt l c.args.name.now c.in-Ok.place) c.deref.ensures.value c.in-Ok.ensures.found in
    rw (← c.self.view_is)
    (c.as_ref.ensures.value ∙ ap (λ (p : NameParts × Place). p.1.answer) c.index.ensures ∙ sym (answer_found ps c.args.name.now c.in-Ok.place x f))

pub returns-in-Err : goal.returns-in-Err
returns-in-Err c =
    let ps = c.self.inside.places.items in
    let f : IsGapAt ps c.args.name.now c.in-Err.field-0 = subst (λ (l : Places). IsGapAt l c.args.name.now c.in-Err.field-0) c.deref.ensures.value c.in-Err.ensures.missed in
    rw (← c.self.view_is) (sym (answer_missed ps c.args.name.now c.in-Err.field-0 f))
