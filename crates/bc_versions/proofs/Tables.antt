-- The next entry changes the table of a history into the table of the longer history; and what a reading takes from a table.
use Rattle.std.proofs.Common.{◌≡◌, ◌∙◌, List, [], ◌∷◌, ◌++◌, ap, refl, sym, subst, Option, Some, None}
use Rattle.std.specs.Prelude.{IfSome}
use Rattle.std.specs.List.{AllZip}
use Rattle.std.specs.Option.{option_or}
use Rattle.bc_syntax.specs.declared.syntax.Body.{Body}
use Rattle.bc_syntax.specs.declared.syntax.Declaration.{Declaration}
use Rattle.bc_names.specs.Names.{NameParts}
use Rattle.bc_prov.specs.declared.outcome.Outcome.{Outcome}
use Rattle.bc_prov.specs.State.{at_name, state_of}
use Rattle.bc_prov.specs.Outcome.{IsOutcomeIn}
use Rattle.bc_prov.specs.Pieces.{ArePieces}
use Rattle.bc_prov.specs.Snapshots.{SnapshotView}
use Rattle.bc_memo.specs.Places.{AreFitting, AreKeptPieces, PieceRows, ShelfView, answer_of, changed, part_in, pieces_after, units_in}
use Rattle.bc_memo.proofs.Found.{kept_after, kept_none, kept_with, part_pieces}
use Rattle.bc_calls.specs.declared.call.Entry.{Entry}
use Rattle.bc_calls.specs.Calls.{after, MayComeNext}
use Rattle.bc_calls.specs.Answers.{IsAnswer, IsShelfOf}
use Rattle.bc_calls.specs.Changes.{change_of}
use Rattle.bc_calls.proofs.Beginnings.{last_of-snoc}
use Rattle.bc_calls.proofs.Changing.{shelf_none, shelf_snoc}
use Rattle.bc_calls.proofs.Parts.{copied_part, outcome_part}
use Rattle.bc_versions.specs.Tables.{TableView, UpdateView, IsTableOf, empty_table, updated}

pub table_none : IsTableOf empty_table []
table_none = record { last = refl; shelf = shelf_none empty_table.shelf refl refl; pieces = kept_none empty_table.shelf }

pub table_snoc : (t : TableView) (h : List Entry) (u : UpdateView)
    → IsTableOf t h → MayComeNext h u.entry → AreFitting (changed t.shelf (change_of u.entry.event) u.revision) u.pieces → IsTableOf (updated t u) (h ++ u.entry ∷ [])
table_snoc t h u of next fits =
    let c = change_of u.entry.event in
    record {
      last = sym (last_of-snoc h u.entry);
      shelf = shelf_snoc t.shelf h u.entry u.revision of.shelf next;
      pieces = kept_with (changed t.shelf c u.revision) u.pieces (pieces_after c t.pieces) fits (kept_after t.shelf t.pieces c u.revision of.shelf.ordered of.pieces);
    }

-- the answer that is read with a part is the part's outcome
pub carried_answer : (s : ShelfView) (h : List Entry) (n : NameParts) (v : SnapshotView) (a : Option Outcome)
    → IsShelfOf s h → v.types ≡ s.types → v.root ≡ n → v.units ≡ units_in n s.places → a ≡ answer_of (at_name s.places n) → IfSome a (IsOutcomeIn (state_of v.types v.units) v.root)
carried_answer s h n v None of types root units is = tt
carried_answer s h n v (Some o) of types root units is =
    outcome_part v n (after h) o (copied_part s h n v of types root units) (subst (IsAnswer h n) (sym is) (of.answers n)).1

-- two related lists with one more pair
pub zip_more : {A B : Type 0} (R : A → B → Type 0) (xs : List A) (ys : List B) (x : A) (y : B) → AllZip R xs ys → R x y → AllZip R (xs ++ x ∷ []) (ys ++ y ∷ [])
zip_more R [] [] x y all one = (one, tt)
zip_more R [] (b ∷ bs) x y all one = absurd all
zip_more R (a ∷ as') [] x y all one = absurd all
zip_more R (a ∷ as') (b ∷ bs) x y all one = (all.0, zip_more R as' bs x y all.1 one)

or_none : (a : Option Outcome) → option_or a None ≡ a
or_none None = refl
or_none (Some o) = refl

-- so what the part carries is the name's answer
pub carried_is : (s : ShelfView) (h : List Entry) (n : NameParts) (a before made : Option Outcome)
    → IsShelfOf s h → a ≡ answer_of (at_name s.places n) → before ≡ None → made ≡ option_or a before → IsAnswer h n made
carried_is s h n a before made of is none carried = subst (IsAnswer h n) (sym (carried ∙ ap (option_or a) none ∙ or_none a ∙ is)) (of.answers n)

-- the pieces that are read of a name are of the units of its part
pub read_pieces : (s : ShelfView) (rows : PieceRows) (n : NameParts) (types : List Declaration) (units : List (NameParts × Body)) (pieces : PieceRows)
    → AreKeptPieces s rows → types ≡ s.types → units ≡ units_in n s.places → pieces ≡ part_in n rows → ArePieces types units pieces
read_pieces s rows n types units pieces kept same held part =
    subst (λ (q : List Declaration × List (NameParts × Body) × PieceRows). ArePieces q.0 q.1 q.2) (λ i. (sym same i, sym held i, sym part i)) (part_pieces n s rows kept)
