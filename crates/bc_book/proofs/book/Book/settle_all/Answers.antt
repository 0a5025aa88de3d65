use Rattle.bc_calls.specs.Calls.{IsListing, after}
use Rattle.std.proofs.Common.{◌≡◌, List, rules, sym, subst}
use Rattle.bc_names.specs.Names.{NameParts}
use Rattle.bc_prov.specs.declared.outcome.Outcome.{Outcome}
use Rattle.bc_memo.specs.declared.memo.Remembered.{Remembered}
use Rattle.bc_memo.specs.Places.{AreFitting, changed}
use Rattle.bc_memo.proofs.Found.{fitting_answers}
use Rattle.bc_calls.specs.declared.call.Event.TheVariants as events
use Rattle.bc_calls.specs.Changes.{change_of, writes_after, writes_of}
use Rattle.bc_book.specs.Ledgers.{Appends, BookView, IsFoundAll, KeepsUnasked, RemembersEach, kept_rows, remembering, AreRows}
use Rattle.bc_book.proofs.Settling.{settled_all, settled_unasked}
use Rattle.bc_book.proofs.book.Book.settle_all.Goals as goal

pub append-requires-clause-fit : goal.append-requires-clause-fit
append-requires-clause-fit g c = subst (λ (v : BookView). AreFitting v.shelf c.in_ok-listing.field-0.pieces.rows) c.self.view_is c.in_ok-listing.ensures.fit

pub append-requires-clause-published : goal.append-requires-clause-published
append-requires-clause-published g c =
    let l = c.self.inside.ledger in
    let listing : List (NameParts × Outcome) = c.in_ok-listing-2.listing in
    let pieces = c.in_ok-listing.field-0.pieces.rows in
    subst (λ (v : BookView). AreFitting (changed v.shelf (change_of (events.All listing)) (writes_after (writes_of v.entries) (events.All listing))) pieces) c.self.view_is
    (fitting_answers l.shelf listing (writes_after (writes_of l.entries) (events.All listing)) pieces c.in_ok-listing.ensures.fit)

pub returns-clause-step : goal.returns-clause-step
returns-clause-step g c =
    let l = c.self.inside.ledger in
    let old : BookView = record { capacity = l.capacity; entries = l.entries; shelf = l.shelf; answers = l.answers; pieces = l.pieces } in
    let new : BookView = c.append.new.self in
    let told = c.in_ok-owners.owners in
    let listing : List (NameParts × Outcome) = c.in_ok-listing-2.listing in
    let rows : List (NameParts × Remembered) = c.in_ok-listing.field-0.rows.items in
    let same : listing ≡ c.in_ok-listing.field-0.listing.items = search rules in
    let found : IsFoundAll old.shelf old.entries old.answers listing rows =
    subst (λ (x : List (NameParts × Outcome)). IsFoundAll old.shelf old.entries old.answers x rows) (sym same) c.in_ok-listing.ensures.found in
    let answers : new.answers ≡ kept_rows (change_of (events.All listing)) (remembering rows old.answers) =
    subst (λ (v : BookView). new.answers ≡ kept_rows (change_of (events.All listing)) (remembering rows v.answers)) (sym c.self.view_is) c.in_ok-owners.ensures.answers in
    let step : Appends c.args.session (events.All listing) old new = subst (λ (v : BookView). Appends c.args.session (events.All listing) v new) (sym c.self.view_is) c.in_ok-owners.ensures.step in
    subst (λ (y : BookView × List (NameParts × Outcome)). (told ≡ events.All y.1) × Appends c.args.session told y.0 new × RemembersEach new.shelf new.answers y.1) (λ i. (c.self.view_is i, sym c.in_ok-reply.ensures.cases i))
    (settled_all c.args.session listing told old new rows c.in_ok-owners.ensures.told step answers found)

pub returns-clause-others : goal.returns-clause-others
returns-clause-others g c =
    let l = c.self.inside.ledger in
    let old : BookView = record { capacity = l.capacity; entries = l.entries; shelf = l.shelf; answers = l.answers; pieces = l.pieces } in
    let new : BookView = c.append.new.self in
    let told = c.in_ok-owners.owners in
    let listing : List (NameParts × Outcome) = c.in_ok-listing-2.listing in
    let rows : List (NameParts × Remembered) = c.in_ok-listing.field-0.rows.items in
    let same : listing ≡ c.in_ok-listing.field-0.listing.items = search rules in
    let found : IsFoundAll old.shelf old.entries old.answers listing rows =
    subst (λ (x : List (NameParts × Outcome)). IsFoundAll old.shelf old.entries old.answers x rows) (sym same) c.in_ok-listing.ensures.found in
    let answers : new.answers ≡ kept_rows (change_of (events.All listing)) (remembering rows old.answers) =
    subst (λ (v : BookView). new.answers ≡ kept_rows (change_of (events.All listing)) (remembering rows v.answers)) (sym c.self.view_is) c.in_ok-owners.ensures.answers in
    subst (λ (v : BookView). KeepsUnasked told v new) c.self.view_is (settled_unasked listing told old new rows c.in_ok-owners.ensures.told answers found)

pub append-requires-clause-reply : goal.append-requires-clause-reply
append-requires-clause-reply g c =
    let listing : List (NameParts × Outcome) = c.in_ok-listing-2.listing in
    let same : listing ≡ c.in_ok-listing.field-0.listing.items = search rules in
    subst (λ (v : BookView). IsListing (after v.entries) listing) c.self.view_is (subst (IsListing (after c.self.inside.ledger.entries)) (sym same) c.in_ok-listing.ensures.listing)

pub append-requires-clause-rows : goal.append-requires-clause-rows
append-requires-clause-rows g c =
    subst (λ (v : BookView). AreRows v.shelf v.entries c.in_ok-listing.field-0.rows.items) c.self.view_is c.in_ok-listing.ensures.found.rows
