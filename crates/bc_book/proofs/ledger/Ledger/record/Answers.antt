use Rattle.std.proofs.Common.{◌≡◌, ℕ, ◌+◌, ◌<◌, ◌≤◌, List, [], ◌∷◌, ◌++◌, length, set, sym, ap, ◌∙◌, subst, arith}
use Rattle.std.specs.Prelude.{◌==◌}
use Rattle.std.proofs.lemmas.List.Sums.{count_by-le-length}
use Rattle.bc_memo.specs.declared.change.Change.{Change}
use Rattle.bc_memo.specs.Places.{AreKeptPieces, IsReady, MayChange, PieceRows, ShelfView, changed, most_rows}
use Rattle.bc_memo.proofs.Found.{kept_after}
use Rattle.bc_calls.specs.declared.call.Entry.{Entry}
use Rattle.bc_calls.specs.Calls.{IsLegal, MayComeNext, after, count_of, most_bodies}
use Rattle.bc_calls.specs.Changes.{writes_after, writes_of}
use Rattle.bc_book.specs.Ledgers.{LedgerView, HasPlace, IsLedger, kept_rows}
use Rattle.bc_calls.proofs.Changing.{may_change}
use Rattle.bc_calls.proofs.Histories.{legal_snoc, writes-snoc}
use Rattle.bc_book.proofs.Keeping.{kept_snoc}
use Rattle.bc_book.proofs.ledger.Ledger.record.Goals as goal

pub change-requires-clause-suited : goal.change-requires-clause-suited
change-requires-clause-suited c =
    let fits = subst (λ (v : LedgerView). MayComeNext v.entries c.args.entry) (sym c.self.view_is) c.requires.next in
    subst MayChange (sym c.requires.change) (may_change (after c.self.inside.history.items) c.args.entry.event fits.0)

pub invariant_of-self : goal.invariant_of-self
invariant_of-self c =
    let i = c.self.inside in
    let e = c.args.entry in
    let is = sym c.self.view_is in
    let fits : MayComeNext i.history.items e = subst (λ (v : LedgerView). MayComeNext v.entries e) is c.requires.next in
    let below : length i.history.items < i.capacity = subst (λ (v : LedgerView). length v.entries < v.capacity) is c.requires.below in
    let place : HasPlace (length i.shelf.held.places) e.event = subst (λ (v : LedgerView). HasPlace (length v.shelf.places) e.event) is c.requires.place in
    let given : c.args.revision ≡ writes_after (writes_of i.history.items) e.event = subst (λ (v : LedgerView). c.args.revision ≡ writes_after (writes_of v.entries) e.event) is c.requires.revision in
    let count : c.args.revision ≡ writes_of (i.history.items ++ e ∷ []) = given ∙ sym (writes-snoc i.history.items e) in
    let held = c.change.ensures.held ∙ ap (λ (x : Change). changed i.shelf.held x c.args.revision) c.requires.change in
    let rows = c.forget_removed.ensures ∙ ap (λ (x : Change). kept_rows x i.memo.rows) c.requires.change in
    let kept = kept_snoc i.capacity i.history.items i.counts i.writes c.args.revision i.shelf.held c.change.new.self.held i.memo.rows c.forget_removed.new.memo.rows e c.self.invariant.0 below fits c.requires.session place count held rows in
    let pieces : AreKeptPieces c.change.new.self.held c.follow.new.self.rows =
    subst (λ (x : ShelfView × PieceRows). AreKeptPieces x.0 x.1) (λ k. (sym c.change.ensures.held k, sym c.follow.ensures.rows k))
    (kept_after i.shelf.held i.pieces.rows c.args.change c.args.revision c.self.invariant.0.shelf_of.ordered c.self.invariant.1) in
    let room : most_bodies < most_rows c.follow.new.self = subst (λ (n : ℕ). most_bodies < n) (sym c.follow.ensures.memory) c.self.invariant.2 in (
      subst (λ (x : List Entry × ℕ). IsLedger i.capacity x.0 (set i.counts x.1 (e.number + 1)) c.args.revision c.change.new.self.held c.forget_removed.new.memo.rows)
          (λ k. (sym c.push_reserved.ensures.items k, sym c.from.ensures k)) kept,
      pieces,
      room,
    )

pub returns-clause-legal : goal.returns-clause-legal
returns-clause-legal c =
    let i = c.self.inside in
    let e = c.args.entry in
    let fits = subst (λ (v : LedgerView). MayComeNext v.entries e) (sym c.self.view_is) c.requires.next in
    subst IsLegal (sym c.push_reserved.ensures.items) (legal_snoc i.history.items e c.self.invariant.0.legal fits)

pub returns-clause-same : goal.returns-clause-same
returns-clause-same c = ap (λ (v : LedgerView). v.capacity) c.self.view_is

pub returns-clause-entries : goal.returns-clause-entries
returns-clause-entries c = c.push_reserved.ensures.items ∙ ap (λ (v : LedgerView). v.entries ++ c.args.entry ∷ []) c.self.view_is

pub returns-clause-shelf : goal.returns-clause-shelf
returns-clause-shelf c = c.change.ensures.held ∙ ap (λ (v : LedgerView). changed v.shelf c.args.change c.args.revision) c.self.view_is

pub returns-clause-answers : goal.returns-clause-answers
returns-clause-answers c = c.forget_removed.ensures ∙ ap (λ (v : LedgerView). kept_rows c.args.change v.answers) c.self.view_is

pub change-requires-clause-ready : goal.change-requires-clause-ready
change-requires-clause-ready c = subst (λ (v : LedgerView). IsReady c.args.change v.ready) (sym c.self.view_is) c.requires.ready

pub overflow_add-self : goal.overflow_add-self
overflow_add-self c =
    let i = c.self.inside in
    let e = c.args.entry in
    let is = sym c.self.view_is in
    let fits : MayComeNext i.history.items e = subst (λ (v : LedgerView). MayComeNext v.entries e) is c.requires.next in
    let below : length i.history.items < i.capacity = subst (λ (v : LedgerView). length v.entries < v.capacity) is c.requires.below in
    let few : count_of e.session i.history.items ≤ length i.history.items = count_by-le-length (λ (x : Entry). x.session == e.session) i.history.items in
    omega (arith, below, few, fits.1, c.self.invariant.0.bounded)

pub push_reserved-requires : goal.push_reserved-requires
push_reserved-requires c =
    let room = subst (λ (v : LedgerView). 0 < v.room) (sym c.self.view_is) c.requires.room.0 in
    omega (arith, room)
