use Rattle.std.proofs.Common.{sym, subst}
use Rattle.bc_book.specs.Ledgers.{LedgerView, IsRow}
use Rattle.bc_book.proofs.Keeping.{kept_remembered}
use Rattle.bc_book.proofs.ledger.Ledger.remember_one.Goals as goal

pub invariant_of-self : goal.invariant_of-self
invariant_of-self c =
    let i = c.self.inside in
    let n = c.args.name in
    let r = c.args.row in
    let row : IsRow i.shelf.held i.history.items n r = subst (λ (v : LedgerView). IsRow v.shelf v.entries n r) (sym c.self.view_is) c.requires.row in
    (kept_remembered i.capacity i.history.items i.counts i.writes i.shelf.held i.memo.rows c.put.new.self.rows n r c.self.invariant.0 row c.put.ensures.rows, c.self.invariant.1, c.self.invariant.2)
