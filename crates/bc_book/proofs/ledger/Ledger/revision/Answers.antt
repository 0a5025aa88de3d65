use Rattle.std.proofs.Common.{◌<◌, length, sym, subst, arith}
use Rattle.bc_calls.proofs.Histories.{writes_few}
use Rattle.bc_book.specs.Ledgers.{LedgerView}
use Rattle.bc_book.proofs.ledger.Ledger.revision.Goals as goal

pub writes_with-requires : goal.writes_with-requires
writes_with-requires c =
    let i = c.self.inside in
    let below : length i.history.items < i.capacity = subst (λ (v : LedgerView). length v.entries < v.capacity) (sym c.self.view_is) c.requires in
    let few = writes_few i.history.items in
    let written = c.self.invariant.0.written in
    let bounded = c.self.invariant.0.bounded in
    omega (arith, below, few, written, bounded)
