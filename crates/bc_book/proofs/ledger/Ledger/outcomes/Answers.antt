use Rattle.std.specs.Map.{keys_of}
use Rattle.std.proofs.Common.{◌≡◌, List, sym, subst, ◌∙◌, ◌++◌, ◌∷◌, [], ap, rules, take}
use Rattle.std.specs.Prelude.{IsSome}
use Rattle.std.proofs.lemmas.List.{take_all, take_more}
use Rattle.bc_names.specs.Names.{NameParts}
use Rattle.bc_prov.specs.State.{at_name}
use Rattle.bc_memo.specs.Places.{ShelfView, roots_in}
use Rattle.bc_calls.specs.Calls.{IsListing, after}
use Rattle.bc_book.specs.Ledgers.{IsFoundAll, LedgerView}
use Rattle.bc_book.proofs.Listing.{listing_of, root_held, found_none}
use Rattle.bc_book.proofs.ledger.Ledger.outcomes.Goals as goal

pub push_outcome-requires-clause-held : goal.push_outcome-requires-clause-held
push_outcome-requires-clause-held g c =
    let s : ShelfView = c.self.inside.shelf.held in
    let names : List NameParts = c.deref-name-items.result.now in
    let n : NameParts = c.name-item.result in
    let roots : names ≡ roots_in s.places = c.deref-name-items.ensures.value ∙ c.in_ok-roots.ensures in
    subst (λ (v : LedgerView). IsSome (at_name v.shelf.places n)) c.self.view_is
    (root_held s c.self.inside.history.items names n c.self.invariant.0.shelf_of roots (c.loop-name.name-index, c.loop-name-test.true, sym c.name-item.is))

pub returns-clause-listing : goal.returns-clause-listing
returns-clause-listing g c =
    let s : ShelfView = c.self.inside.shelf.held in
    let names : List NameParts = c.deref-name-items.result.now in
    let roots : names ≡ roots_in s.places = c.deref-name-items.ensures.value ∙ c.in_ok-roots.ensures in
    let all = take_all c.loop-name.name-index names c.loop-name-test.false in
    let found = subst (λ (v : LedgerView). IsFoundAll v.shelf v.entries v.answers c.loop-name.found.listing.items c.loop-name.found.rows.items) (sym c.self.view_is) c.loop-name.invariant.found in
    subst (λ (v : LedgerView). IsListing (after v.entries) c.loop-name.found.listing.items) c.self.view_is
    (listing_of s c.self.inside.history.items c.loop-name.found.listing.items c.self.invariant.0.shelf_of (c.loop-name.invariant.names ∙ all ∙ roots) found.right)

pub loop-name-preserved : goal.loop-name-preserved
loop-name-preserved g c =
    let names : List NameParts = c.deref-name-items.result.now in
    let i = c.loop-name.name-index in
    let n : NameParts = c.name-item.result in
    let more = take_more names i n c.loop-name-test.true in
    record {
      names = search rules ∙ ap (λ (ks : List NameParts). ks ++ n ∷ []) c.loop-name.invariant.names ∙ ap (λ (x : NameParts). take i names ++ x ∷ []) c.name-item.is ∙ sym more;
      over = search rules;
      fit = search rules;
      found = search rules;
    }

pub loop-name-init : goal.loop-name-init
loop-name-init g c =
    record {
      names = ap keys_of c.none-found.ensures.listing;
      over = search rules;
      fit = rw c.none-found.ensures.pieces tt;
      found = rw (c.none-found.ensures.listing, c.none-found.ensures.rows) (found_none _ _ _);
    }
