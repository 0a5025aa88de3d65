use Rattle.std.proofs.Common.{sym, subst}
use Rattle.bc_memo.specs.Places.{Places, IsFoundAt, IsGapAt}
use Rattle.bc_memo.proofs.Places.{found_some, missed_none}
use Rattle.bc_memo.proofs.shelf.Shelf.is_held.Goals as goal

pub returns-in-Ok : goal.returns-in-Ok
returns-in-Ok c =
    let ps = c.self.inside.places.items in
    let f : IsFoundAt ps c.args.name.now c.in-Ok.field-0 = subst (λ (l : Places). IsFoundAt l c.args.name.now c.in-Ok.field-0) c.deref.ensures.value c.in-Ok.ensures.found in
    rw (← c.self.view_is) (sym (found_some ps c.args.name.now c.in-Ok.field-0 f))

pub returns-in-Err : goal.returns-in-Err
returns-in-Err c =
    let ps = c.self.inside.places.items in
    let f : IsGapAt ps c.args.name.now c.in-Err.field-0 = subst (λ (l : Places). IsGapAt l c.args.name.now c.in-Err.field-0) c.deref.ensures.value c.in-Err.ensures.missed in
    rw (← c.self.view_is) (sym (missed_none ps c.args.name.now c.in-Err.field-0 f))
