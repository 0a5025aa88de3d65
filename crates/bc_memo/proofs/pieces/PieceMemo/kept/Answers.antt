use Rattle.std.proofs.Common.{◌∙◌, ap, sym, subst, Some}
use Rattle.bc_names.specs.Names.{NameParts}
use Rattle.bc_prov.specs.Pieces.{PieceView}
use Rattle.bc_memo.specs.Places.{PieceRows, IsFoundAt, IsGapAt}
use Rattle.bc_memo.proofs.Places.{at_found, at_missed}
use Rattle.bc_memo.proofs.pieces.PieceMemo.kept.Goals as goal

pub returns-in-Ok : goal.returns-in-Ok
returns-in-Ok c =
    let rows = c.self.inside.rows.items in
    let x : NameParts × PieceView = c.index.result.now in
    let f : IsFoundAt rows c.args.name.now c.in-Ok.place = subst (λ (l : PieceRows). IsFoundAt l c.args.name.now c.in-Ok.place) c.deref.ensures.value c.in-Ok.ensures.found in
    rw (← c.self.view_is) (ap (λ (p : NameParts × PieceView). Some p.1) c.index.ensures ∙ sym (at_found rows c.args.name.now c.in-Ok.place x f.within f.above (f.at x)))

pub returns-in-Err : goal.returns-in-Err
returns-in-Err c =
    let rows = c.self.inside.rows.items in
    let f : IsGapAt rows c.args.name.now c.in-Err.field-0 = subst (λ (l : PieceRows). IsGapAt l c.args.name.now c.in-Err.field-0) c.deref.ensures.value c.in-Err.ensures.missed in
    rw (← c.self.view_is) (sym (at_missed rows c.args.name.now c.in-Err.field-0 f.above f.below))
