use Rattle.std.proofs.Common.{◌≡◌, List, true≢false, refl, ◌∙◌, ap, sym, subst, Some, None}
use Rattle.bc_names.specs.Names.{NameParts}
use Rattle.bc_prov.specs.State.{at_name}
use Rattle.bc_memo.specs.declared.memo.Remembered.{Remembered}
use Rattle.bc_memo.specs.Memos.{MemoView, Stands}
use Rattle.bc_memo.specs.Places.{IsFoundAt, IsGapAt}
use Rattle.bc_memo.proofs.Places.{at_found, at_missed}
use Rattle.bc_memo.proofs.memo.Memo.lookup.Goals as goal

pub returns-then-stands-clause-stands : goal.returns-then-stands-clause-stands
returns-then-stands-clause-stands c =
    let rows = c.self.inside.rows.items in
    let x : NameParts × Remembered = c.index.result.now in
    let f : IsFoundAt rows c.args.name.now c.in-Ok.place = subst (λ (l : List (NameParts × Remembered)). IsFoundAt l c.args.name.now c.in-Ok.place) c.deref.ensures.value c.in-Ok.ensures.found in
    let at : at_name rows c.args.name.now ≡ Some x.1 = at_found rows c.args.name.now c.in-Ok.place x f.within f.above (f.at x) ∙ ap (λ (p : NameParts × Remembered). Some p.1) (sym c.index.ensures) in
    rw (← c.self.view_is) (x.1, at, c.stands.ensures.0 c.if-stands.true, refl)

pub returns-else-stands-clause-none : goal.returns-else-stands-clause-none
returns-else-stands-clause-none c row held stand =
    let rows = c.self.inside.rows.items in
    let x : NameParts × Remembered = c.index.result.now in
    let f : IsFoundAt rows c.args.name.now c.in-Ok.place = subst (λ (l : List (NameParts × Remembered)). IsFoundAt l c.args.name.now c.in-Ok.place) c.deref.ensures.value c.in-Ok.ensures.found in
    let at : at_name rows c.args.name.now ≡ Some x.1 = at_found rows c.args.name.now c.in-Ok.place x f.within f.above (f.at x) ∙ ap (λ (p : NameParts × Remembered). Some p.1) (sym c.index.ensures) in
    let both : Some x.1 ≡ Some row = sym at ∙ ap (λ (m : MemoView). at_name m.rows c.args.name.now) c.self.view_is ∙ held in
    let same : x.1 ≡ row = cc in
    true≢false (sym (c.stands.ensures.1 (subst (λ (r : Remembered). Stands c.args.shelf.now.held r) (sym same) stand)) ∙ c.if-stands.false)

pub returns-in-Err-clause-none : goal.returns-in-Err-clause-none
returns-in-Err-clause-none c row held stand =
    let rows = c.self.inside.rows.items in
    let f : IsGapAt rows c.args.name.now c.in-Err.field-0 = subst (λ (l : List (NameParts × Remembered)). IsGapAt l c.args.name.now c.in-Err.field-0) c.deref.ensures.value c.in-Err.ensures.missed in
    let none : None ≡ Some row = sym (at_missed rows c.args.name.now c.in-Err.field-0 f.above f.below) ∙ ap (λ (m : MemoView). at_name m.rows c.args.name.now) c.self.view_is ∙ held in
    absurd (cc)
