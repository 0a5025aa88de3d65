use Rattle.std.proofs.Common.{◌≡◌, List, ap, refl, sym, subst}
use Rattle.bc_prov.specs.Outcome.{IsOutcomeIn}
use Rattle.bc_prov.specs.Snapshots.{names_used}
use Rattle.std.specs.Prelude.{None}
use Rattle.bc_names.specs.Names.{NameParts}
use Rattle.bc_memo.specs.Memos.{IsRowOf}
use Rattle.bc_memo.specs.Places.{ShelfView, units_in}
use Rattle.bc_calls.specs.Answers.{IsShelfOf}
use Rattle.bc_calls.specs.Calls.{after}
use Rattle.bc_book.specs.Ledgers.{LedgerView}
use Rattle.bc_book.specs.Memory.{ArePast}
use Rattle.bc_book.proofs.Keeping.{row_of}
use Rattle.bc_book.proofs.ledger.Ledger.remembered.Goals as goal

pub used-requires : goal.used-requires
used-requires c = c.self.invariant.1

pub returns-clause-row : goal.returns-clause-row
returns-clause-row c =
    let l = c.args.self.now in
    let n = c.args.name.now in
    let shelf = ap (λ (v : LedgerView). v.shelf) c.self.view_is in
    let names = subst (λ (s : ShelfView). c.in_ok-names.names.items ≡ names_used n (units_in n s.places)) shelf c.in_ok-names.ensures in
    row_of l.shelf l.entries (record { types = l.shelf.types; root = n; units = units_in n l.shelf.places; carried = None }) n c.in_ok-names.names.items c.in_ok-row.row c.in_ok-outcome.outcome
    (subst (λ (v : LedgerView). IsShelfOf v.shelf v.entries) c.self.view_is c.self.invariant.0.shelf_of)
    (subst (λ (v : LedgerView). ArePast v.shelf v.entries) c.self.view_is c.self.invariant.0.past)
    c.requires.held refl refl refl names
    (subst (λ (x : ShelfView × List NameParts). IsRowOf x.0 x.1 c.in_ok-outcome.outcome c.in_ok-row.row) (λ k. (shelf k, c.deref.ensures.value k)) c.in_ok-row.ensures)
    (subst (IsOutcomeIn (after l.entries) n) (sym c.in_ok-outcome.ensures.cases) c.requires.outcome)
