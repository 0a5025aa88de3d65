use Rattle.std.proofs.Common.{◌∙◌, ap, sym, subst, Some}
use Rattle.bc_names.specs.Names.{NameParts}
use Rattle.bc_memo.specs.declared.place.Place.{Place}
use Rattle.bc_memo.specs.Places.{Places, IsFoundAt, IsGapAt, revision_of}
use Rattle.bc_memo.proofs.Places.{at_found, at_missed}
use Rattle.bc_memo.proofs.shelf.Shelf.revision.Goals as goal

pub returns-in-Ok : goal.returns-in-Ok
returns-in-Ok c =
    let ps = c.self.inside.places.items in
    let x : NameParts × Place = c.index.result.now in
    let f : IsFoundAt ps c.args.name.now c.in-Ok.place = subst (λ (l : Places). IsFoundAt l c.args.name.now c.in-Ok.place) c.deref.ensures.value c.in-Ok.ensures.found in
    rw (← c.self.view_is)
    (ap (λ (p : NameParts × Place). Some p.1.revision) c.index.ensures ∙ sym (ap revision_of (at_found ps c.args.name.now c.in-Ok.place x f.within f.above (f.at x))))

pub returns-in-Err : goal.returns-in-Err
returns-in-Err c =
    let ps = c.self.inside.places.items in
    let f : IsGapAt ps c.args.name.now c.in-Err.field-0 = subst (λ (l : Places). IsGapAt l c.args.name.now c.in-Err.field-0) c.deref.ensures.value c.in-Err.ensures.missed in
    rw (← c.self.view_is) (sym (ap revision_of (at_missed ps c.args.name.now c.in-Err.field-0 f.above f.below)))
