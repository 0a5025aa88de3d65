use Rattle.std.proofs.Common.{◌≡◌, List, sym, subst}
use Rattle.bc_names.specs.Names.{NameParts}
use Rattle.bc_syntax.specs.declared.syntax.Declaration.{Declaration}
use Rattle.bc_syntax.specs.declared.syntax.Body.{Body}
use Rattle.bc_prov.specs.Pieces.{ArePieces}
use Rattle.bc_prov.specs.Snapshots.{SnapshotView, IsPartOf}
use Rattle.bc_memo.specs.Places.{PieceRows, units_in}
use Rattle.bc_memo.proofs.Found.{part_pieces}
use Rattle.bc_calls.specs.Calls.{after}
use Rattle.bc_calls.proofs.Parts.{copied_part}
use Rattle.bc_book.specs.Ledgers.{LedgerView}
use Rattle.bc_book.proofs.ledger.Ledger.part.Goals as goal

pub keep_pieces-requires : goal.keep_pieces-requires
keep_pieces-requires c =
    let i = c.self.inside in
    let of = c.in_ok-snapshot.ensures.snapshot in
    subst (λ (x : List Declaration × List (NameParts × Body) × PieceRows). ArePieces x.0 x.1 x.2) (λ k. (sym of.0 k, sym of.2 k, sym c.in_ok-pieces.ensures.pieces k))
    (part_pieces c.args.name.now i.shelf.held i.pieces.rows c.self.invariant.1)

pub returns-clause-part : goal.returns-clause-part
returns-clause-part c =
    let i = c.self.inside in
    let n = c.args.name.now in
    let v = c.in_ok-snapshot.field-0.snapshot in
    let of = c.in_ok-snapshot.ensures.snapshot in
    subst (λ (x : SnapshotView × LedgerView). IsPartOf x.0 n (after x.1.entries)) (λ k. (sym c.keep_pieces.ensures k, c.self.view_is k))
    (copied_part i.shelf.held i.history.items n v c.self.invariant.0.shelf_of of.0 of.1 of.2)

pub returns-clause-held : goal.returns-clause-held
returns-clause-held c =
    let n = c.args.name.now in
    subst (λ (x : SnapshotView × LedgerView). (x.0.types ≡ x.1.shelf.types) × (x.0.root ≡ n) × (x.0.units ≡ units_in n x.1.shelf.places)) (λ k. (sym c.keep_pieces.ensures k, c.self.view_is k)) c.in_ok-snapshot.ensures.snapshot
