use Rattle.std.proofs.Common.{List, ap, sym, subst, ◌∙◌}
use Rattle.bc_memo.specs.Places.{AreKeptPieces, PieceRows, ShelfView}
use Rattle.bc_calls.specs.declared.call.Entry.{Entry}
use Rattle.bc_calls.specs.Answers.{IsShelfOf}
use Rattle.bc_versions.specs.Tables.{TableView}
use Rattle.bc_versions.proofs.Publishing.{looks}
use Rattle.bc_versions.proofs.front.read_held.Goals as goal

pub enter_as-requires : goal.enter_as-requires
enter_as-requires c = looks _ _

pub returns-in-Ok-pieces-clause-held : goal.returns-in-Ok-pieces-clause-held
returns-in-Ok-pieces-clause-held c =
    let held = c.in-Ok-held.ensures.held ∙ c.shelf.ensures ∙ ap (λ (x : TableView). x.shelf) c.get-table.ensures in
    subst (λ (q : ShelfView × List Entry). IsShelfOf q.0 q.1) (λ i. (sym held i, sym c.leave-reader.ensures.1 i)) c.in-Ok.ensures.1.2.shelf

pub returns-in-Ok-pieces-clause-pieces : goal.returns-in-Ok-pieces-clause-pieces
returns-in-Ok-pieces-clause-pieces c =
    let held = c.in-Ok-held.ensures.held ∙ c.shelf.ensures ∙ ap (λ (x : TableView). x.shelf) c.get-table.ensures in
    let kept = c.in-Ok-pieces.ensures.rows ∙ c.pieces.ensures ∙ ap (λ (x : TableView). x.pieces) c.get-table.ensures in
    subst (λ (q : ShelfView × PieceRows). AreKeptPieces q.0 q.1) (λ i. (sym held i, sym kept i)) c.in-Ok.ensures.1.2.pieces
