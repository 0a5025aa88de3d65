use Rattle.std.proofs.Common.{List, ap, sym, subst, ◌∙◌}
use Rattle.left_right.specs.Sides.{view}
use Rattle.bc_prov.specs.Snapshots.{IsPartOf}
use Rattle.bc_memo.specs.Places.{AreKeptPieces, PieceRows, ShelfView}
use Rattle.bc_calls.specs.declared.call.Entry.{Entry}
use Rattle.bc_calls.specs.Calls.{after}
use Rattle.bc_calls.specs.Answers.{IsAnswer, IsShelfOf}
use Rattle.bc_versions.specs.Tables.{TableView}
use Rattle.bc_versions.proofs.Publishing.{looks}
use Rattle.bc_versions.proofs.front.read_part.Goals as goal

pub enter_as-requires : goal.enter_as-requires
enter_as-requires c = looks _ _

pub begin_root-begun-requires-clause-history : goal.begin_root-begun-requires-clause-history
begin_root-begun-requires-clause-history c =
    let h = view c.in-Ok.reading.place in
    let held = c.shelf.ensures ∙ ap (λ (x : TableView). x.shelf) c.get-table.ensures in
    (h, subst (λ (s : ShelfView). IsShelfOf s h) (sym held) c.in-Ok.ensures.1.2.shelf)

pub begin_root-begun-requires-clause-pieces : goal.begin_root-begun-requires-clause-pieces
begin_root-begun-requires-clause-pieces c =
    let held = c.shelf.ensures ∙ ap (λ (x : TableView). x.shelf) c.get-table.ensures in
    let kept = c.pieces.ensures ∙ ap (λ (x : TableView). x.pieces) c.get-table.ensures in
    subst (λ (q : ShelfView × PieceRows). AreKeptPieces q.0 q.1) (λ i. (sym held i, sym kept i)) c.in-Ok.ensures.1.2.pieces

pub returns-in-Ok-begun-clause-part : goal.returns-in-Ok-begun-clause-part
returns-in-Ok-begun-clause-part c =
    let h = view c.in-Ok.reading.place in
    let held = c.shelf.ensures ∙ ap (λ (x : TableView). x.shelf) c.get-table.ensures in
    let of = subst (λ (s : ShelfView). IsShelfOf s h) (sym held) c.in-Ok.ensures.1.2.shelf in
    subst (λ (g : List Entry). IsPartOf c.in-Ok-begun.begun c.args.of.1 (after g)) (sym c.leave-reader.ensures.1) (c.in-Ok-begun.ensures h of).part

pub returns-in-Ok-begun-clause-answer : goal.returns-in-Ok-begun-clause-answer
returns-in-Ok-begun-clause-answer c =
    let h = view c.in-Ok.reading.place in
    let held = c.shelf.ensures ∙ ap (λ (x : TableView). x.shelf) c.get-table.ensures in
    let of = subst (λ (s : ShelfView). IsShelfOf s h) (sym held) c.in-Ok.ensures.1.2.shelf in
    subst (λ (g : List Entry). IsAnswer g c.args.of.1 c.in-Ok-begun.begun.carried) (sym c.leave-reader.ensures.1) (c.in-Ok-begun.ensures h of).answer
