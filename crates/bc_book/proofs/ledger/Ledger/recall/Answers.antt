use Rattle.std.proofs.Common.{◌≡◌, Option, subst}
use Rattle.std.specs.Prelude.{IfSome}
use Rattle.bc_names.specs.Names.{NameParts}
use Rattle.bc_prov.specs.Outcome.{IsOutcomeIn}
use Rattle.bc_prov.specs.Pieces.{rows_of}
use Rattle.bc_memo.specs.Places.{AreFitting}
use Rattle.bc_calls.specs.Calls.{after}
use Rattle.bc_calls.specs.Works.{WorkView}
use Rattle.bc_calls.proofs.Parts.{stood_outcome}
use Rattle.bc_book.specs.Ledgers.{LedgerView}
use Rattle.bc_book.proofs.ledger.Ledger.recall.Goals as goal

pub returns-in-Ok-clause-outcome : goal.returns-in-Ok-clause-outcome
returns-in-Ok-clause-outcome c = λ n root right.
    let i = c.self.inside in
    let w = c.in-Some.work in
    let o = c.in-Ok.found.outcome in
    let root : w.snapshot.root ≡ n = subst (λ (work : Option WorkView). IfSome work (λ x. x.snapshot.root ≡ n)) c.in-Some.is root in
    subst (λ (p : LedgerView × NameParts). IsOutcomeIn (after p.0.entries) p.1 o) (λ k. (c.self.view_is k, root k))
    (stood_outcome i.shelf.held i.history.items w o c.self.invariant.0.shelf_of c.in-Ok.ensures.own)

pub returns-in-Ok-clause-fit : goal.returns-in-Ok-clause-fit
returns-in-Ok-clause-fit c = subst (λ (v : LedgerView). AreFitting v.shelf (rows_of c.in-Ok.found.pieces)) c.self.view_is c.in-Ok.ensures.fit
