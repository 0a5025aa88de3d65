use Rattle.std.proofs.Common.{◌≡◌, ap, sym, subst, ◌∙◌}
use Rattle.std.specs.Prelude.{IfSome}
use Rattle.bc_prov.specs.Outcome.{IsOutcomeIn}
use Rattle.bc_prov.specs.Pieces.{ArePieces, rows_of}
use Rattle.bc_prov.specs.Snapshots.{SnapshotView, IsPartOf}
use Rattle.bc_prov.specs.State.{state_of}
use Rattle.bc_outcomes.specs.declared.reporting.AskResult.{AskResult}
use Rattle.bc_memo.specs.Places.{AreFitting, units_in}
use Rattle.bc_calls.specs.Calls.{after}
use Rattle.bc_calls.proofs.Parts.{ok_map, part_fitting, part_outcome, same_part_of}
use Rattle.bc_book.proofs.Keeping.{some_map}
use Rattle.bc_book.proofs.ledger.Ledger.found_anew.Goals as goal

pub returns-clause-outcome : goal.returns-clause-outcome
returns-clause-outcome g c =
    let v = c.offer-with_pieces.result in
    let n = c.args.name.now in
    let s = after c.args.self.now.entries in
    let made = c.carrying-begun.ensures.part in
    let begun = same_part_of c.in_ok-part.part.snapshot c.carrying-begun.result n s made.0 made.1 made.2 c.in_ok-part.ensures.part in
    let part : IsPartOf v n s = subst (λ (w : SnapshotView). IsPartOf w n s) (sym c.offer-with_pieces.ensures) begun in
    ok_map c.find.result (λ (f : AskResult). IsOutcomeIn (state_of v.types v.units) v.root f.outcome) (λ (f : AskResult). IsOutcomeIn s n f.outcome) (λ f is. part_outcome v n s f.outcome part is) c.find.ensures.outcome

pub returns-clause-over : goal.returns-clause-over
returns-clause-over g c =
    let v = c.offer-with_pieces.result in
    let held = c.args.self.now.shelf.types in
    let types : v.types ≡ held = ap (λ (w : SnapshotView). w.types) c.offer-with_pieces.ensures ∙ c.carrying-begun.ensures.part.0 ∙ c.in_ok-part.ensures.held.0 in
    ok_map c.find.result (λ (f : AskResult). IfSome f.pieces (λ set. set.types ≡ v.types)) (λ (f : AskResult). IfSome f.pieces (λ set. set.types ≡ held))
    (λ f is. some_map f.pieces (λ set. set.types ≡ v.types) (λ set. set.types ≡ held) (λ set same. same ∙ types) is) c.find.ensures.over

pub returns-clause-fit : goal.returns-clause-fit
returns-clause-fit g c =
    let v = c.offer-with_pieces.result in
    let n = c.args.name.now in
    let held = c.args.self.now.shelf in
    let types : v.types ≡ held.types = ap (λ (w : SnapshotView). w.types) c.offer-with_pieces.ensures ∙ c.carrying-begun.ensures.part.0 ∙ c.in_ok-part.ensures.held.0 in
    let units : v.units ≡ units_in n held.places = ap (λ (w : SnapshotView). w.units) c.offer-with_pieces.ensures ∙ c.carrying-begun.ensures.part.2 ∙ c.in_ok-part.ensures.held.2 in
    ok_map c.find.result (λ (f : AskResult). ArePieces v.types v.units (rows_of f.pieces)) (λ (f : AskResult). AreFitting held (rows_of f.pieces))
    (λ f are. part_fitting held n v.types v.units (rows_of f.pieces) types units are) c.find.ensures.fit
