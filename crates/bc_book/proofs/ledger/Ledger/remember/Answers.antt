use Rattle.std.proofs.Common.{◌≡◌, ◌∙◌, ◌∷◌, [], List, length, ap, sym, subst, arith, rules}
use Rattle.std.proofs.lemmas.List.{nil_from_length}
use Rattle.bc_names.specs.Names.{NameParts}
use Rattle.bc_memo.specs.declared.memo.Remembered.{Remembered}
use Rattle.bc_memo.specs.Places.{ShelfView}
use Rattle.bc_calls.specs.declared.call.Entry.{Entry}
use Rattle.bc_book.specs.Ledgers.{AreRows, remembering}
use Rattle.bc_book.proofs.Recalling.{same_again, same_itself}
use Rattle.bc_book.proofs.ledger.Ledger.remember.Goals as goal

pub loop-name-init : goal.loop-name-init
loop-name-init c =
    let l = c.args.self.now in
    let same : c.into_iter-name-iterator.result.rest.items ≡ c.args.rows.items = search rules in
    record {
      same = same_itself l;
      room = (let long = ap length same in omega (arith, long, c.requires.room));
      rows = subst (λ (rows : List (NameParts × Remembered)). AreRows l.shelf l.entries rows) (sym same) c.requires.rows;
      answers = ap (λ (rows : List (NameParts × Remembered)). remembering rows l.answers) same;
    }

pub remember_one-requires-clause-room : goal.remember_one-requires-clause-room
remember_one-requires-clause-room c =
    let step : c.loop-name.name-iterator.rest.items ≡ (c.in-Some.name, c.in-Some.row) ∷ c.next.new.self.rest.items = search rules in
    let long = ap length step in
    omega (arith, long, c.loop-name.invariant.room)

pub remember_one-requires-clause-row : goal.remember_one-requires-clause-row
remember_one-requires-clause-row c =
    let step : c.loop-name.name-iterator.rest.items ≡ (c.in-Some.name, c.in-Some.row) ∷ c.next.new.self.rest.items = search rules in
    (subst (λ (rows : List (NameParts × Remembered)). AreRows c.loop-name.self.shelf c.loop-name.self.entries rows) step c.loop-name.invariant.rows).0

pub loop-name-preserved : goal.loop-name-preserved
loop-name-preserved c =
    let before = c.loop-name.invariant in
    let l = c.loop-name.self in
    let one = c.remember_one.ensures in
    let rest = c.next.new.self.rest.items in
    let step : c.loop-name.name-iterator.rest.items ≡ (c.in-Some.name, c.in-Some.row) ∷ rest = search rules in
    record {
      same = same_again c.args.self.now l c.remember_one.new.self before.same one.same;
      room = (let long = ap length step in omega (arith, long, before.room, one.room));
      rows =
          subst (λ (x : ShelfView × List Entry). AreRows x.0 x.1 rest) (λ i. (sym one.same.shelf i, sym one.same.entries i))
          (subst (λ (rows : List (NameParts × Remembered)). AreRows l.shelf l.entries rows) step before.rows).1;
      answers =
          ap (λ (rows : List (NameParts × Remembered)). remembering rest rows) one.answers
          ∙ sym (ap (λ (rows : List (NameParts × Remembered)). remembering rows l.answers) step)
          ∙ before.answers;
    }

pub returns-clause-answers : goal.returns-clause-answers
returns-clause-answers c =
    let steps = c.in-None.ensures.steps in
    let none : c.loop-name.name-iterator.rest.items ≡ [] = nil_from_length c.loop-name.name-iterator.rest.items (sym c.loop-name.name-iterator.rest.ok.0 ∙ steps.0) in
    sym (ap (λ (rows : List (NameParts × Remembered)). remembering rows c.loop-name.self.answers) none) ∙ c.loop-name.invariant.answers
