use Rattle.bc_calls.specs.Calls.{after}
use Rattle.bc_prov.specs.Outcome.{IsOutcomeIn}
use Rattle.std.proofs.Common.{◌≡◌, ◌++◌, List, ap, sym, ◌∙◌, subst}
use Rattle.std.specs.Prelude.{None}
use Rattle.bc_names.specs.Names.{NameParts}
use Rattle.bc_prov.specs.State.{at_name}
use Rattle.bc_prov.specs.Pieces.{rows_of}
use Rattle.bc_prov.specs.declared.outcome.Outcome.{Outcome}
use Rattle.bc_memo.specs.declared.memo.Remembered.{Remembered}
use Rattle.bc_memo.specs.Places.{AreFitting, changed}
use Rattle.bc_memo.proofs.Found.{fitting_answer}
use Rattle.bc_calls.specs.declared.call.Event.TheVariants as events
use Rattle.bc_calls.specs.Changes.{change_of, writes_after, writes_of}
use Rattle.bc_book.specs.Ledgers.{Appends, AreRows, BookView, KeepsOthers, Remembers, kept_rows, remembering, row_list}
use Rattle.bc_book.proofs.Recalling.{others_kept_by}
use Rattle.bc_book.proofs.Settling.{rows_of_row, settled_absent, settled_step}
use Rattle.bc_book.proofs.book.Book.settle.Goals as goal

pub append-requires-clause-rows : goal.append-requires-clause-rows
append-requires-clause-rows g c =
    let row = c.in_ok-outcome.field-0.row in
    let rows : c.push_row.new.rows.items ≡ row_list row = c.in_ok-push_row.ensures ∙ ap (λ (l : List (NameParts × Remembered)). l ++ row_list row) c.new-rows.ensures.items in
    subst (λ (v : BookView). AreRows v.shelf v.entries c.push_row.new.rows.items) c.self.view_is
    (subst (λ (l : List (NameParts × Remembered)). AreRows c.self.inside.ledger.shelf c.self.inside.ledger.entries l) (sym rows)
    (rows_of_row c.self.inside.ledger.shelf c.self.inside.ledger.entries c.name.result.now row c.in_ok-outcome.ensures.row))

pub append-requires-clause-fit : goal.append-requires-clause-fit
append-requires-clause-fit g c = subst (λ (v : BookView). AreFitting v.shelf (rows_of c.in_ok-outcome.field-0.pieces)) c.self.view_is c.in_ok-outcome.ensures.fit

pub append-requires-clause-published : goal.append-requires-clause-published
append-requires-clause-published g c =
    let l = c.self.inside.ledger in
    let k : NameParts = c.name.result.now in
    let x : Outcome = c.in_ok-outcome.field-0.outcome in
    let pieces = rows_of c.in_ok-outcome.field-0.pieces in
    subst (λ (v : BookView). AreFitting (changed v.shelf (change_of (events.Ask k x)) (writes_after (writes_of v.entries) (events.Ask k x))) pieces) c.self.view_is
    (fitting_answer l.shelf k x (writes_after (writes_of l.entries) (events.Ask k x)) pieces c.in_ok-outcome.ensures.fit)

pub returns-clause-step : goal.returns-clause-step
returns-clause-step g c =
    let l = c.self.inside.ledger in
    let old : BookView = record { capacity = l.capacity; entries = l.entries; shelf = l.shelf; answers = l.answers; pieces = l.pieces } in
    let new : BookView = c.append.new.self in
    let row = c.in_ok-outcome.field-0.row in
    let k : NameParts = c.name.result.now in
    let n : NameParts = c.args.work.snapshot.root in
    let x : Outcome = c.in_ok-outcome.field-0.outcome in
    let rows : c.push_row.new.rows.items ≡ row_list row = c.in_ok-push_row.ensures ∙ ap (λ (l : List (NameParts × Remembered)). l ++ row_list row) c.new-rows.ensures.items in
    let answers : new.answers ≡ kept_rows (change_of (events.Ask k x)) (remembering (row_list row) old.answers) =
    subst (λ (y : List (NameParts × Remembered) × BookView). new.answers ≡ kept_rows (change_of (events.Ask k x)) (remembering y.0 y.1.answers)) (λ i. (rows i, sym c.self.view_is i)) c.in_ok-owners.ensures.answers in
    let told = c.in_ok-owners.owners in
    let step : Appends c.args.session (events.Ask k x) old new = subst (λ (v : BookView). Appends c.args.session (events.Ask k x) v new) (sym c.self.view_is) c.in_ok-owners.ensures.step in
    subst (λ (y : BookView × Outcome). (told ≡ events.Ask n y.1) × Appends c.args.session told y.0 new × Remembers n y.1 new) (λ i. (c.self.view_is i, sym c.in_ok-reply.ensures.cases i))
    (settled_step c.args.session k n x told old new row c.in_ok-owners.ensures.told step answers c.name.ensures c.in_ok-outcome.ensures.recalls c.in_ok-outcome.ensures.row)

pub returns-clause-others : goal.returns-clause-others
returns-clause-others g c =
    let l = c.self.inside.ledger in
    let old : BookView = record { capacity = l.capacity; entries = l.entries; shelf = l.shelf; answers = l.answers; pieces = l.pieces } in
    let new : BookView = c.append.new.self in
    let row = c.in_ok-outcome.field-0.row in
    let k : NameParts = c.name.result.now in
    let n : NameParts = c.args.work.snapshot.root in
    let x : Outcome = c.in_ok-outcome.field-0.outcome in
    let rows : c.push_row.new.rows.items ≡ row_list row = c.in_ok-push_row.ensures ∙ ap (λ (l : List (NameParts × Remembered)). l ++ row_list row) c.new-rows.ensures.items in
    let answers : new.answers ≡ kept_rows (change_of (events.Ask k x)) (remembering (row_list row) old.answers) =
    subst (λ (y : List (NameParts × Remembered) × BookView). new.answers ≡ kept_rows (change_of (events.Ask k x)) (remembering y.0 y.1.answers)) (λ i. (rows i, sym c.self.view_is i)) c.in_ok-owners.ensures.answers in
    subst (λ (v : BookView). KeepsOthers n v new) c.self.view_is (others_kept_by k n x old new row answers c.name.ensures c.in_ok-outcome.ensures.row)

pub returns-clause-absent : goal.returns-clause-absent
returns-clause-absent g c =
    let l = c.self.inside.ledger in
    let old : BookView = record { capacity = l.capacity; entries = l.entries; shelf = l.shelf; answers = l.answers; pieces = l.pieces } in
    let new : BookView = c.append.new.self in
    let row = c.in_ok-outcome.field-0.row in
    let k : NameParts = c.name.result.now in
    let n : NameParts = c.args.work.snapshot.root in
    let x : Outcome = c.in_ok-outcome.field-0.outcome in
    let rows : c.push_row.new.rows.items ≡ row_list row = c.in_ok-push_row.ensures ∙ ap (λ (l : List (NameParts × Remembered)). l ++ row_list row) c.new-rows.ensures.items in
    let answers : new.answers ≡ kept_rows (change_of (events.Ask k x)) (remembering (row_list row) old.answers) =
    subst (λ (y : List (NameParts × Remembered) × BookView). new.answers ≡ kept_rows (change_of (events.Ask k x)) (remembering y.0 y.1.answers)) (λ i. (rows i, sym c.self.view_is i)) c.in_ok-owners.ensures.answers in
    subst (λ (v : BookView). at_name v.shelf.places n ≡ None → new.answers ≡ v.answers) c.self.view_is (settled_absent k n x old new row answers c.name.ensures c.in_ok-outcome.ensures.row)

pub append-requires-clause-reply : goal.append-requires-clause-reply
append-requires-clause-reply g c = subst (λ (v : BookView). IsOutcomeIn (after v.entries) c.name.result.now c.in_ok-outcome.field-0.outcome) c.self.view_is c.in_ok-outcome.ensures.outcome
