use Rattle.std.proofs.Common.{Some, None, sym, subst}
use Rattle.bc_prov.specs.declared.outcome.Outcome.{Outcome}
use Rattle.bc_prov.specs.Outcome.{IsOutcomeIn}
use Rattle.bc_memo.specs.Memos.{IsRemembered}
use Rattle.bc_calls.specs.Calls.{after}
use Rattle.bc_book.specs.Ledgers.{LedgerView}
use Rattle.bc_book.proofs.Keeping.{answer_right}
use Rattle.bc_book.proofs.ledger.Ledger.answer.Goals as goal

pub returns-in_ok-outcome-in-Some-clause-right : goal.returns-in_ok-outcome-in-Some-clause-right
returns-in_ok-outcome-in-Some-clause-right c =
    let i = c.self.inside in
    let n = c.args.name.now in
    let row = c.in-Some.ensures.stands in
    subst (λ (x : LedgerView × Outcome). IsOutcomeIn (after x.0.entries) n x.1) (λ k. (c.self.view_is k, sym c.in_ok-outcome-in-Some.ensures.cases k))
    (answer_right i.history.items i.shelf.held i.memo.rows n row.0 c.in-Some.outcome.now c.self.invariant.0.right row.1 row.2 row.3)

pub returns-in_ok-outcome-in-Some-clause-remembered : goal.returns-in_ok-outcome-in-Some-clause-remembered
returns-in_ok-outcome-in-Some-clause-remembered c =
    let n = c.args.name.now in
    subst (λ (x : LedgerView × Outcome). IsRemembered x.0.shelf x.0.answers n (Some x.1)) (λ k. (c.self.view_is k, sym c.in_ok-outcome-in-Some.ensures.cases k)) c.in-Some.ensures.stands

pub returns-in-None-clause-remembered : goal.returns-in-None-clause-remembered
returns-in-None-clause-remembered c = subst (λ (v : LedgerView). IsRemembered v.shelf v.answers c.args.name.now None) c.self.view_is c.in-None.ensures.none
