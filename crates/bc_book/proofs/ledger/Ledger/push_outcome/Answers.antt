use Rattle.std.proofs.lemmas.List.{map-append}
use Rattle.std.specs.Map.{keys_of}
use Rattle.std.proofs.Common.{◌≡◌, ◌++◌, ◌∷◌, [], List, rules, sym, subst, ◌∙◌, ap}
use Rattle.bc_names.specs.Names.{NameParts}
use Rattle.bc_prov.specs.declared.outcome.Outcome.{Outcome}
use Rattle.bc_prov.specs.Outcome.{IsOutcomeIn}
use Rattle.bc_prov.specs.Pieces.{rows_of}
use Rattle.bc_memo.specs.declared.memo.Remembered.{Remembered}
use Rattle.bc_memo.specs.Places.{AreFitting, PieceRows}
use Rattle.bc_calls.specs.Calls.{after}
use Rattle.bc_book.specs.Ledgers.{IsFoundAll}
use Rattle.bc_book.proofs.Listing.{all_append, found_more}
use Rattle.bc_book.proofs.ledger.Ledger.push_outcome.Goals as goal

pub returns-clause-found : goal.returns-clause-found
returns-clause-found g c =
    let l = c.args.self.now in
    let n : NameParts = c.args.name.now in
    let o : Outcome = c.in_ok-outcome.field-0.outcome in
    let listing = c.args.found.now.listing.items in
    let rows = c.args.found.now.rows.items in
    let right : IsOutcomeIn (after l.entries) n o = search rules in
    let longer : c.push.new.self.items ≡ listing ++ (n, o) ∷ [] = search rules in
    subst (λ (x : List (NameParts × Outcome) × List (NameParts × Remembered)). IsFoundAll l.shelf l.entries l.answers x.0 x.1) (λ i. (sym longer i, sym c.in_ok-push_row.ensures i))
    (found_more l.shelf l.entries l.answers listing rows n o c.in_ok-outcome.field-0.row c.requires.held right c.in_ok-outcome.ensures.recalls c.in_ok-outcome.ensures.row c.requires.found)

pub returns-clause-fit : goal.returns-clause-fit
returns-clause-fit g c =
    let l = c.args.self.now in
    let before : PieceRows = c.args.found.now.pieces.rows in
    subst (λ (rows : PieceRows). AreFitting l.shelf rows) (sym c.in_ok-push_pieces.ensures.rows) (all_append _ before (rows_of c.in_ok-outcome.field-0.pieces) c.requires.fit c.in_ok-outcome.ensures.fit)

pub returns-clause-listed : goal.returns-clause-listed
returns-clause-listed g c =
    let listing = c.args.found.now.listing.items in
    let n : NameParts = c.args.name.now in
    let o : Outcome = c.in_ok-outcome.field-0.outcome in
    let longer : c.push.new.self.items ≡ listing ++ (n, o) ∷ [] = search rules in
    ap keys_of longer ∙ map-append (λ (x : NameParts × Outcome). x.0) listing ((n, o) ∷ [])

pub returns-clause-over : goal.returns-clause-over
returns-clause-over g c = c.push_pieces.ensures.types ∙ c.requires.over
