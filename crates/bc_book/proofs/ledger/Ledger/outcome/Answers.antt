use Rattle.std.proofs.Common.{Option, Some, subst}
use Rattle.std.specs.Prelude.{IfSome}
use Rattle.bc_prov.specs.declared.outcome.Outcome.{Outcome}
use Rattle.bc_prov.specs.Outcome.{IsOutcomeIn}
use Rattle.bc_memo.specs.Memos.{IsRemembered}
use Rattle.bc_calls.specs.Calls.{after}
use Rattle.bc_book.proofs.Recalling.{recalls_none}
use Rattle.bc_book.proofs.ledger.Ledger.outcome.Goals as goal

pub returns-in-Some-clause-outcome : goal.returns-in-Some-clause-outcome
returns-in-Some-clause-outcome g c =
    let l = c.args.self.now in
    let n = c.args.name.now in
    let right : IsOutcomeIn (after l.entries) n c.in-Some.answer = subst (λ (o : Option Outcome). IfSome o (IsOutcomeIn (after l.entries) n)) c.in-Some.is c.in_ok-answer.ensures.right in
    c.recall-outcome.ensures.outcome n c.requires right

pub returns-in-Some-clause-recalls : goal.returns-in-Some-clause-recalls
returns-in-Some-clause-recalls g c =
    let l = c.args.self.now in
    let n = c.args.name.now in
    let right : IsOutcomeIn (after l.entries) n c.in-Some.answer = subst (λ (o : Option Outcome). IfSome o (IsOutcomeIn (after l.entries) n)) c.in-Some.is c.in_ok-answer.ensures.right in
    let remembered : IsRemembered l.shelf l.answers n (Some c.in-Some.answer) = subst (λ (o : Option Outcome). IsRemembered l.shelf l.answers n o) c.in-Some.is c.in_ok-answer.ensures.remembered in
    recalls_none l.shelf l.entries l.answers n c.recall-outcome.result.outcome c.in-Some.answer remembered right (c.recall-outcome.ensures.outcome n c.requires right)
