-- Kept pieces stay right for what is stored.
use Rattle.std.proofs.Common.{◌≡◌, ℕ, Bool, true, false, true≢false, List, [], ◌∷◌, cond, refl, ap, sym, subst, ◌∙◌, Option, Some, None}
use Rattle.std.specs.Prelude.{map}
use Rattle.std.specs.Option.{option_map}
use Rattle.std.specs.List.{AllByRecursion}
use Rattle.std.specs.List.Sorted.{IsStrictlySortedBy}
use Rattle.std.specs.Map.{keys_of, remove_entry}
use Rattle.std.specs.BTreeMap.{is_at, insert_entry}
use Rattle.std.specs.declared.cmp.Ordering.TheVariants.{Less}
use Rattle.std.proofs.lemmas.Map.Entries.{lookup-filter-keys}
use Rattle.bc_syntax.specs.declared.syntax.Declaration.{Declaration}
use Rattle.bc_syntax.specs.declared.syntax.Body.{Body}
use Rattle.bc_names.specs.Names.{NameParts, name_order, is_same_name, is_within}
use Rattle.bc_names.proofs.Equality.{name}
use Rattle.bc_prov.specs.State.{at_name}
use Rattle.bc_prov.specs.Pieces.{PieceView, ArePieces, IsPieceFor}
use Rattle.bc_prov.specs.Outcome.{OutcomeRows}
use Rattle.bc_prov.specs.declared.outcome.Outcome.{Outcome}
use Rattle.bc_memo.specs.declared.place.Place.{Place}
use Rattle.bc_memo.specs.declared.change.Change.{Change}
use Rattle.bc_memo.specs.declared.change.Change.TheVariants.{Types, Put, Remove, Answer, Answers, Nothing}
use Rattle.bc_memo.specs.Places.{Places, PieceRows, ShelfView, AreFitting, AreHeldPieces, AreKeptPieces, AreOrdered, changed, mark, marked, part_in, pieces_after, pieces_with, unit_of, units_in, written}
use Rattle.bc_memo.proofs.Places.{at_head, at_name-map, at_name-put, at_name-take, at_tail, by_bool, less_apart, no_order, ordered-filter, ordered-put, ordered-take, same_name, units_at}

-- pieces stay right if one name is written and its piece is dropped
found_past : (types : List Declaration) (ps qs : Places) (m : NameParts) (rows : PieceRows) → AreOrdered rows → ((n : NameParts) → (m ≡ n → ⊥) → unit_of (at_name qs n) ≡ unit_of (at_name ps n))
    → AreHeldPieces types ps rows → AreHeldPieces types qs (remove_entry (is_at (name_order m)) rows)
found_past types ps qs m rows ordered same found n piece at =
    by_bool (is_same_name m n)
    (λ is. absurd (let none : None ≡ Some piece = sym (at_name-take m n rows ordered ∙ ap (λ (b : Bool). cond b None (at_name rows n)) is) ∙ at in cc))
    (λ apart.
    let there : at_name rows n ≡ Some piece = sym (at_name-take m n rows ordered ∙ ap (λ (b : Bool). cond b None (at_name rows n)) apart) ∙ at in
    subst (λ (u : Option Body). IsPieceFor types u piece) (sym (same n (λ (e : m ≡ n). true≢false (sym ((name m n).1 e) ∙ apart)))) (found n piece there))

-- the unit at a name stays if places change without their units
unit-map : (f : NameParts → Place → Place) (ps : Places) (n : NameParts) → ((m : NameParts) (p : Place) → (f m p).unit ≡ p.unit)
    → unit_of (at_name (map (λ (p : NameParts × Place). (p.0, f p.0 p.1)) ps) n) ≡ unit_of (at_name ps n)
unit-map f ps n same = ap unit_of (at_name-map f n ps) ∙ over (at_name ps n)
  where
    over : (o : Option Place) → unit_of (option_map (f n) o) ≡ unit_of o
    over None = refl
    over (Some p) = ap Some (same n p)

unit-marked : (c : Change) (ps : Places) (n : NameParts) → unit_of (at_name (marked c ps) n) ≡ unit_of (at_name ps n)
unit-marked c ps n = unit-map (mark c) ps n (λ k p. refl)

other : {A : Type 0} (m n : NameParts) (a b : A) → (m ≡ n → ⊥) → cond (is_same_name m n) a b ≡ b
other m n a b apart = by_bool (is_same_name m n) (λ is. absurd (apart ((name m n).0 is))) (λ is. ap (λ (x : Bool). cond x a b) is)

-- pieces stay right if only answers change
found-marked : (types : List Declaration) (ps : Places) (rows : PieceRows) (c : Change) → AreHeldPieces types ps rows → AreHeldPieces types (marked c ps) rows
found-marked types ps rows c found n piece at = subst (λ (u : Option Body). IsPieceFor types u piece) (sym (unit-marked c ps n)) (found n piece at)

-- one piece more is right, if it is of the unit at its name
found_more : (types : List Declaration) (ps : Places) (rows : PieceRows) (m : NameParts) (more : PieceView) → IsPieceFor types (unit_of (at_name ps m)) more → AreHeldPieces types ps rows
    → AreHeldPieces types ps (insert_entry name_order rows m more)
found_more types ps rows m more fits found n piece at =
    by_bool (is_same_name m n)
    (λ is.
    let both : Some more ≡ Some piece = sym (at_name-put m more n rows ∙ ap (λ (b : Bool). cond b (Some more) (at_name rows n)) is) ∙ at in
    let same : more ≡ piece = cc in
    subst (λ (p : NameParts × PieceView). IsPieceFor types (unit_of (at_name ps p.0)) p.1) (λ i. ((name m n).0 is i, same i)) fits)
    (λ apart. found n piece (sym (at_name-put m more n rows ∙ ap (λ (b : Bool). cond b (Some more) (at_name rows n)) apart) ∙ at))

-- ---- pieces that are kept

pub kept_none : (shelf : ShelfView) → AreKeptPieces shelf []
kept_none shelf = record { sorted = no_order PieceView; found = λ n piece at. absurd (cc) }

-- pieces stay right through a change
pub kept_after : (shelf : ShelfView) (rows : PieceRows) (change : Change) (revision : ℕ) → AreOrdered shelf.places → AreKeptPieces shelf rows → AreKeptPieces (changed shelf change revision) (pieces_after change rows)
kept_after shelf rows (Types types) revision ordered kept = kept_none (changed shelf (Types types) revision)
kept_after shelf rows (Put m unit) revision ordered kept = record {
  sorted = ordered-take (is_at (name_order m)) rows kept.sorted;
  found =
      found_past shelf.types shelf.places (changed shelf (Put m unit) revision).places m rows kept.sorted
      (λ n apart. unit-marked (Put m unit) (insert_entry name_order shelf.places m (written unit revision)) n
      ∙ ap unit_of (at_name-put m (written unit revision) n shelf.places ∙ other m n (Some (written unit revision)) (at_name shelf.places n) apart)) kept.found;
}
kept_after shelf rows (Remove m) revision ordered kept = record {
  sorted = ordered-take (is_at (name_order m)) rows kept.sorted;
  found =
      found_past shelf.types shelf.places (changed shelf (Remove m) revision).places m rows kept.sorted
      (λ n apart. unit-marked (Remove m) (remove_entry (is_at (name_order m)) shelf.places) n
      ∙ ap unit_of (at_name-take m n shelf.places ordered ∙ other m n None (at_name shelf.places n) apart)) kept.found;
}
kept_after shelf rows (Answer m outcome) revision ordered kept = record { sorted = kept.sorted; found = found-marked shelf.types shelf.places rows (Answer m outcome) kept.found }
kept_after shelf rows (Answers listing) revision ordered kept = record { sorted = kept.sorted; found = found-marked shelf.types shelf.places rows (Answers listing) kept.found }
kept_after shelf rows Nothing revision ordered kept = record { sorted = kept.sorted; found = found-marked shelf.types shelf.places rows Nothing kept.found }

-- and with more pieces that fit
pub kept_with : (shelf : ShelfView) (more rows : PieceRows) → AreFitting shelf more → AreKeptPieces shelf rows → AreKeptPieces shelf (pieces_with more rows)
kept_with shelf [] rows fit kept = kept
kept_with shelf (p ∷ more) rows fit kept = kept_with shelf more (insert_entry name_order rows p.0 p.1) fit.1 (record {
  sorted = ordered-put p.0 p.1 rows kept.sorted;
  found = found_more shelf.types shelf.places rows p.0 p.1 fit.0 kept.found;
})

-- ---- a name's part

-- the value at a name in a part, which has none outside
in_part : {V : Type 0} (root n : NameParts) (b : Bool) (rows : List (NameParts × V)) → is_within root n ≡ b → at_name (part_in root rows) n ≡ cond b (at_name rows n) None
in_part root n b rows is = lookup-filter-keys (is_at (name_order n)) (is_within root) b (λ k at. ap (is_within root) (sym ((same_name n k).0 at)) ∙ is) rows

-- no unit is found outside the part
no_unit : (root n : NameParts) (ps : Places) → is_within root n ≡ false → at_name (units_in root ps) n ≡ None
no_unit root n ps is = at_name-map (λ (k : NameParts) (p : Place). p.unit) n (part_in root ps) ∙ ap (option_map (λ (p : Place). p.unit)) (in_part root n false ps is)

-- what holds of the value at each name holds of all entries
all_at : (P : NameParts → PieceView → Type 0) (rows : PieceRows) → AreOrdered rows → ((n : NameParts) (v : PieceView) → at_name rows n ≡ Some v → P n v) → AllByRecursion (λ (r : NameParts × PieceView). P r.0 r.1) rows
unfolding IsStrictlySortedBy
all_at P [] ordered each = tt
all_at P (r ∷ rows) ordered each = (
  each r.0 r.1 (at_head r.0 r.0 r.1 rows refl),
  all_at P rows ordered.1 (λ n v at. each n v (at_tail n r.0 r.1 rows (λ (e : n ≡ r.0). behind rows ordered.0 n v e at) ∙ at)),
)
  where
    behind : (es : PieceRows) → AllByRecursion (λ y. name_order r.0 y ≡ Less) (keys_of es) → (n : NameParts) (v : PieceView) → n ≡ r.0 → at_name es n ≡ Some v → ⊥
    behind [] all n v e at = absurd (cc)
    behind (x ∷ es) all n v e at =
        behind es all.1 n v e (sym (at_tail n x.0 x.1 es (λ (same : n ≡ x.0). less_apart r.0 x.0 all.0 (sym e ∙ same))) ∙ at)

-- a name's part of the kept pieces is of the name's part of what is stored
pub part_pieces : (root : NameParts) (shelf : ShelfView) (rows : PieceRows) → AreKeptPieces shelf rows → ArePieces shelf.types (units_in root shelf.places) (part_in root rows)
part_pieces root shelf rows kept =
    all_at (λ (n : NameParts) (piece : PieceView). IsPieceFor shelf.types (at_name (units_in root shelf.places) n) piece) (part_in root rows) (ordered-filter (is_within root) rows kept.sorted)
    (λ n piece at. by_bool (is_within root n)
    (λ is.
    let there : at_name rows n ≡ Some piece = sym (in_part root n true rows is) ∙ at in
    subst (λ (u : Option Body). IsPieceFor shelf.types u piece) (sym (units_at root shelf.places n is)) (kept.found n piece there))
    (λ is. absurd (let none : None ≡ Some piece = sym (in_part root n false rows is) ∙ at in cc)))

-- pieces of a name's part fit what is stored
pub fitting_part : (root : NameParts) (shelf : ShelfView) (rows : PieceRows) → ArePieces shelf.types (units_in root shelf.places) rows → AreFitting shelf rows
fitting_part root shelf [] all = tt
fitting_part root shelf (p ∷ rows) all = (
  by_bool (is_within root p.0)
      (λ is. subst (λ (u : Option Body). IsPieceFor shelf.types u p.1) (units_at root shelf.places p.0 is) all.0)
      (λ is. absurd (let none : None ≡ Some p.1.unit = sym (no_unit root p.0 shelf.places is) ∙ all.0.unit in cc)),
  fitting_part root shelf rows all.1,
)

-- ---- a change that only brings answers

fitting-marked : (shelf : ShelfView) (c : Change) (rows : PieceRows) → AreFitting shelf rows → AllByRecursion (λ (p : NameParts × PieceView). IsPieceFor shelf.types (unit_of (at_name (marked c shelf.places) p.0)) p.1) rows
fitting-marked shelf c [] fit = tt
fitting-marked shelf c (p ∷ rows) fit = (subst (λ (u : Option Body). IsPieceFor shelf.types u p.1) (sym (unit-marked c shelf.places p.0)) fit.0, fitting-marked shelf c rows fit.1)

-- what fits still fits
pub fitting_answer : (shelf : ShelfView) (n : NameParts) (outcome : Outcome) (revision : ℕ) (rows : PieceRows) → AreFitting shelf rows → AreFitting (changed shelf (Answer n outcome) revision) rows
fitting_answer shelf n outcome revision rows fit = fitting-marked shelf (Answer n outcome) rows fit

pub fitting_answers : (shelf : ShelfView) (listing : OutcomeRows) (revision : ℕ) (rows : PieceRows) → AreFitting shelf rows → AreFitting (changed shelf (Answers listing) revision) rows
fitting_answers shelf listing revision rows fit = fitting-marked shelf (Answers listing) rows fit
