use Rattle.std.proofs.Common.{Option, sym, subst, arith}
use Rattle.bc_prov.specs.Pieces.{PieceSetView, rows_of}
use Rattle.bc_memo.specs.Places.{AreFitting, AreKeptPieces, PieceRows}
use Rattle.bc_memo.proofs.Found.{kept_with}
use Rattle.bc_book.specs.Ledgers.{LedgerView}
use Rattle.bc_book.proofs.ledger.Ledger.keep.Goals as goal

pub invariant_of-self : goal.invariant_of-self
invariant_of-self c =
    let i = c.self.inside in
    let rows : PieceRows = c.into_rows.result.items in
    let held : AreFitting i.shelf.held (rows_of c.args.pieces) = subst (λ (v : LedgerView). AreFitting v.shelf (rows_of c.args.pieces)) (sym c.self.view_is) c.requires.fit in
    let fit : AreFitting i.shelf.held rows =
    subst (λ (ps : PieceRows). AreFitting i.shelf.held ps) (sym c.into_rows.ensures.rows) (subst (λ (p : Option PieceSetView). AreFitting i.shelf.held (rows_of p)) c.in-Some.is held) in
    let same = c.keep_all.ensures.memory in
    let room = c.self.invariant.2 in (
      c.self.invariant.0,
      subst (λ (kept : PieceRows). AreKeptPieces i.shelf.held kept) (sym c.keep_all.ensures.rows) (kept_with i.shelf.held rows i.pieces.rows fit c.self.invariant.1),
      omega (arith, same, room),
    )
