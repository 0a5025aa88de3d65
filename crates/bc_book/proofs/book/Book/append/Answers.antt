use Rattle.std.proofs.Common.{◌≡◌, ℕ, List, length, sym, ap, ◌∙◌, subst, ◌<◌, arith}
use Rattle.bc_names.specs.Names.{NameParts}
use Rattle.bc_prov.specs.Pieces.{rows_of}
use Rattle.bc_prov.specs.declared.outcome.Outcome.{Outcome}
use Rattle.bc_memo.specs.Places.{AreFitting, IsReady, PieceRows, ShelfView, changed, pieces_after, pieces_with}
use Rattle.bc_calls.specs.declared.call.Entry.{Entry}
use Rattle.bc_calls.specs.Calls.{IsReply, MayComeNext, after, count_of}
use Rattle.bc_calls.specs.Changes.{change_of, writes_after, writes_of}
use Rattle.bc_versions.specs.Tables.{PressView}
use Rattle.bc_book.specs.Ledgers.{Appends, AreRows, BookView, HasPlace, kept_rows, remembering}
use Rattle.bc_book.proofs.Entering.{book_of, entered_book, kept_book, on_err, pieces_book, published_book, same_book, still_published}
use Rattle.bc_book.proofs.book.Book.append.Goals as goal

pub keep-requires-clause-fit : goal.keep-requires-clause-fit
keep-requires-clause-fit g c =
    subst (λ (s : ShelfView). AreFitting s (rows_of c.args.effects.pieces)) (sym c.make_ready.ensures.same.shelf)
    (subst (λ (v : BookView). AreFitting v.shelf (rows_of c.args.effects.pieces)) (sym c.self.view_is) c.requires.fit)

pub keep-requires-clause-room : goal.keep-requires-clause-room
keep-requires-clause-room g c = omega (arith, c.count_pieces-count.ensures, c.in_ok-change.ensures.room.3)

pub remember-requires-clause-rows : goal.remember-requires-clause-rows
remember-requires-clause-rows g c =
    let same = c.make_ready.ensures.same in
    let kept = c.keep.ensures.same in
    subst (λ (x : ShelfView × List Entry). AreRows x.0 x.1 c.args.effects.rows.items) (λ k. (sym (kept.shelf ∙ same.shelf) k, sym (kept.entries ∙ same.entries) k))
    (subst (λ (v : BookView). AreRows v.shelf v.entries c.args.effects.rows.items) (sym c.self.view_is) c.requires.rows)

pub publish-requires-clause-next : goal.publish-requires-clause-next
publish-requires-clause-next g c =
    let h = c.self.inside.ledger.entries in
    let reply : IsReply (after h) c.args.event = subst (λ (v : BookView). IsReply (after v.entries) c.args.event) (sym c.self.view_is) c.requires.reply in
    let number : c.number-number.result ≡ count_of c.args.session h = c.number-number.ensures ∙ ap (count_of c.args.session) c.make_ready.ensures.same.entries in
    subst (λ (x : List Entry). MayComeNext x (record { session = c.args.session; number = c.number-number.result; event = c.args.event })) (sym (ap (λ (p : PressView). p.entries) c.self.invariant)) (reply, number)

pub publish-requires-clause-pieces : goal.publish-requires-clause-pieces
publish-requires-clause-pieces g c =
    let h = c.self.inside.ledger.entries in
    let e = c.args.event in
    let rows : PieceRows = rows_of c.args.effects.pieces in
    let fit : AreFitting (changed c.self.inside.ledger.shelf (change_of e) (writes_after (writes_of h) e)) rows =
    subst (λ (v : BookView). AreFitting (changed v.shelf (change_of e) (writes_after (writes_of v.entries) e)) rows) (sym c.self.view_is) c.requires.published in
    let revision : c.revision-revision.result ≡ writes_after (writes_of h) e = c.revision-revision.ensures ∙ ap (λ (x : List Entry). writes_after (writes_of x) e) c.make_ready.ensures.same.entries in
    subst (λ (x : PressView × ℕ). AreFitting (changed x.0.shelf (change_of e) x.1) rows) (λ k. (sym c.self.invariant k, sym revision k)) fit

pub record-requires-clause-next : goal.record-requires-clause-next
record-requires-clause-next g c =
    let h = c.self.inside.ledger.entries in
    let reply : IsReply (after h) c.args.event = subst (λ (v : BookView). IsReply (after v.entries) c.args.event) (sym c.self.view_is) c.requires.reply in
    let number : c.number-number.result ≡ count_of c.args.session h = c.number-number.ensures ∙ ap (count_of c.args.session) c.make_ready.ensures.same.entries in
    let same : c.remember.new.self.entries ≡ h = c.remember.ensures.same.entries ∙ c.keep.ensures.same.entries ∙ c.make_ready.ensures.same.entries in
    subst (λ (x : List Entry). MayComeNext x (record { session = c.args.session; number = c.number-number.result; event = c.args.event })) (sym same) (reply, number)

pub record-requires-clause-place : goal.record-requires-clause-place
record-requires-clause-place g c =
    let same : c.remember.new.self.shelf ≡ c.self.inside.ledger.shelf = c.remember.ensures.same.shelf ∙ c.keep.ensures.same.shelf ∙ c.make_ready.ensures.same.shelf in
    subst (λ (s : ShelfView). HasPlace (length s.places) c.args.event) (sym same) (subst (λ (v : BookView). HasPlace (length v.shelf.places) c.args.event) (sym c.self.view_is) c.requires.place)

pub record-requires-clause-revision : goal.record-requires-clause-revision
record-requires-clause-revision g c = c.revision-revision.ensures ∙ ap (λ (x : List Entry). writes_after (writes_of x) c.args.event) (sym (c.remember.ensures.same.entries ∙ c.keep.ensures.same.entries))

pub record-requires-clause-ready : goal.record-requires-clause-ready
record-requires-clause-ready g c = subst (λ (listing : List (NameParts × Outcome)). IsReady c.in_ok-change.change listing) (sym (c.remember.ensures.same.ready ∙ c.keep.ensures.same.ready)) c.in_ok-change.ensures.ready

pub invariant_of-self : goal.invariant_of-self
invariant_of-self g c = still_published c.self.inside.ledger c.make_ready.new.self c.self.inside.press c.make_ready.ensures.same c.self.invariant

pub invariant_of-self-in_err-told : goal.invariant_of-self-in_err-told
invariant_of-self-in_err-told g c = still_published c.self.inside.ledger c.make_ready.new.self c.self.inside.press c.make_ready.ensures.same c.self.invariant

pub invariant_of-self-in_err-publish : goal.invariant_of-self-in_err-publish
invariant_of-self-in_err-publish g c = still_published c.self.inside.ledger c.make_ready.new.self c.publish.new.press c.make_ready.ensures.same (c.in_err-publish.ensures ∙ c.self.invariant)

pub invariant_of-self-2 : goal.invariant_of-self-2
invariant_of-self-2 g c =
    published_book c.self.inside.ledger c.make_ready.new.self c.keep.new.self c.remember.new.self c.record.new.self c.args.session c.number-number.result c.revision-revision.result c.args.event c.in_ok-change.change
    c.make_ready.ensures.same c.keep.ensures.same c.remember.ensures.same c.in_ok-change.ensures.change c.record.ensures.entries c.record.ensures.shelf c.self.inside.press c.publish.new.press c.self.invariant c.in_ok-publish.ensures

pub returns-clause-step : goal.returns-clause-step
returns-clause-step g c =
    let h = c.self.inside.ledger.entries in
    let reply : IsReply (after h) c.args.event = subst (λ (v : BookView). IsReply (after v.entries) c.args.event) (sym c.self.view_is) c.requires.reply in
    subst (λ (v : BookView). Appends c.args.session c.args.event v (book_of c.record.new.self)) c.self.view_is
    (entered_book c.self.inside.ledger c.make_ready.new.self c.keep.new.self c.remember.new.self c.record.new.self c.args.session c.number-number.result c.revision-revision.result c.args.event c.in_ok-change.change
    c.make_ready.ensures.same c.keep.ensures.same c.remember.ensures.same c.in_ok-change.ensures.change c.record.ensures.entries c.record.ensures.shelf reply c.number-number.ensures c.revision-revision.ensures c.record.ensures.same c.record.ensures.legal)

pub returns-clause-answers : goal.returns-clause-answers
returns-clause-answers g c =
    let rows = c.args.effects.rows.items in
    kept_book c.self.inside.ledger c.make_ready.new.self c.keep.new.self c.remember.new.self c.record.new.self c.args.session c.number-number.result c.revision-revision.result c.args.event c.in_ok-change.change
    c.make_ready.ensures.same c.keep.ensures.same c.remember.ensures.same c.in_ok-change.ensures.change c.record.ensures.entries c.record.ensures.shelf rows c.record.ensures.answers c.remember.ensures.answers
    ∙ ap (λ (v : BookView). kept_rows (change_of c.args.event) (remembering rows v.answers)) c.self.view_is

pub returns-clause-pieces : goal.returns-clause-pieces
returns-clause-pieces g c =
    let rows = rows_of c.args.effects.pieces in
    pieces_book c.self.inside.ledger c.make_ready.new.self c.keep.new.self c.remember.new.self c.record.new.self c.args.session c.number-number.result c.revision-revision.result c.args.event c.in_ok-change.change
    c.make_ready.ensures.same c.keep.ensures.same c.remember.ensures.same c.in_ok-change.ensures.change c.record.ensures.entries c.record.ensures.shelf rows c.record.ensures.pieces c.keep.ensures.pieces
    ∙ ap (λ (v : BookView). pieces_after (change_of c.args.event) (pieces_with rows v.pieces)) c.self.view_is

pub returns-in_err-change-clause-refused : goal.returns-in_err-change-clause-refused
returns-in_err-change-clause-refused g c = on_err _ _ (same_book c.self.inside.ledger c.make_ready.new.self c.make_ready.ensures.same ∙ c.self.view_is)

pub returns-in_err-told-clause-refused : goal.returns-in_err-told-clause-refused
returns-in_err-told-clause-refused g c = on_err _ _ (same_book c.self.inside.ledger c.make_ready.new.self c.make_ready.ensures.same ∙ c.self.view_is)

pub returns-in_err-publish-clause-refused : goal.returns-in_err-publish-clause-refused
returns-in_err-publish-clause-refused g c = on_err _ _ (same_book c.self.inside.ledger c.make_ready.new.self c.make_ready.ensures.same ∙ c.self.view_is)

pub remember-requires-clause-room : goal.remember-requires-clause-room
remember-requires-clause-room g c = omega (arith, c.len.ensures, c.args.effects.rows.ok.0, c.keep.ensures.same.rows, c.in_ok-change.ensures.room.2)

pub revision-revision-requires : goal.revision-revision-requires
revision-revision-requires g c =
    let same = c.make_ready.ensures.same in
    subst (λ (x : List Entry × ℕ). length x.0 < x.1) (λ k. (sym same.entries k, sym same.capacity k)) c.in_ok-change.ensures.below

pub record-requires-clause-below : goal.record-requires-clause-below
record-requires-clause-below g c =
    let same = c.make_ready.ensures.same in
    let kept = c.keep.ensures.same in
    let rest = c.remember.ensures.same in
    subst (λ (x : List Entry × ℕ). length x.0 < x.1) (λ k. (sym (rest.entries ∙ kept.entries ∙ same.entries) k, sym (rest.capacity ∙ kept.capacity ∙ same.capacity) k)) c.in_ok-change.ensures.below

pub returns-clause-below : goal.returns-clause-below
returns-clause-below g c = subst (λ (v : BookView). length v.entries < v.capacity) c.self.view_is c.in_ok-change.ensures.below
