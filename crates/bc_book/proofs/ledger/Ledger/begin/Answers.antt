use Rattle.std.proofs.Common.{Option, sym, subst}
use Rattle.bc_prov.specs.Outcome.{IsOutcomeIn}
use Rattle.bc_prov.specs.State.{state_of}
use Rattle.bc_calls.specs.Calls.{after}
use Rattle.bc_prov.specs.declared.outcome.Outcome.{Outcome}
use Rattle.bc_memo.specs.Memos.{IsRemembered}
use Rattle.bc_book.proofs.Keeping.{some_map}
use Rattle.bc_book.proofs.Recalling.{carried_as}
use Rattle.bc_calls.proofs.Parts.{outcome_part, same_part_of}
use Rattle.bc_book.proofs.ledger.Ledger.begin.Goals as goal

pub carrying-requires : goal.carrying-requires
carrying-requires c =
    let v = c.in_ok-part.part.snapshot in
    let n = c.args.name.now in
    let s = after c.args.self.now.entries in
    some_map c.in_ok-answer.answer (IsOutcomeIn s n) (IsOutcomeIn (state_of v.types v.units) v.root) (λ o is. outcome_part v n s o c.in_ok-part.ensures.part is) c.in_ok-answer.ensures.right

pub returns-clause-part : goal.returns-clause-part
returns-clause-part c =
    let same = c.carrying.ensures.part in
    same_part_of c.in_ok-part.part.snapshot c.carrying.result c.args.name.now (after c.args.self.now.entries) same.0 same.1 same.2 c.in_ok-part.ensures.part

pub returns-clause-remembered : goal.returns-clause-remembered
returns-clause-remembered c =
    let a = c.in_ok-answer.answer in
    let same = carried_as a c.in_ok-part.part.snapshot.carried c.carrying.result.carried c.in_ok-part.ensures.bare c.carrying.ensures.carried in
    subst (λ (o : Option Outcome). IsRemembered c.args.self.now.shelf c.args.self.now.answers c.args.name.now o) (sym same) c.in_ok-answer.ensures.remembered
