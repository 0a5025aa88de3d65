-- The closures that the units of a name's part name.
use denote.Ref.{Bor}
use Rattle.std.proofs.Common.{◌≡◌, ℕ, zero, suc, ◌<◌, true, List, [], ◌∷◌, ◌++◌, length, get_or, refl, ap, sym, ◌∙◌, Option, Some, None, arith}
use Rattle.std.specs.Prelude.{map, IfSome}
use Rattle.std.specs.Option.{option_copied}
use Rattle.std.specs.List.{AllByRecursion, flat_map}
use Rattle.std.specs.Map.{keys_of}
use Rattle.std.proofs.lemmas.Cmp.{tied_itself}
use Rattle.bc_syntax.specs.declared.syntax.Body.{Body}
use Rattle.bc_names.specs.Names.{NameParts, is_within}
use Rattle.bc_names.proofs.Equality.{names_total}
use Rattle.bc_prov.specs.Pieces.{PieceView}
use Rattle.bc_prov.specs.Snapshots.{children_named}
use Rattle.bc_prov.specs.State.{HasRoom, Suits, at_name}
use Rattle.bc_prov.proofs.Lookup.{found}
use Rattle.bc_memo.specs.declared.place.Place.{Place}
use Rattle.bc_memo.specs.Places.{Places, PieceRows, ShelfView, AreKept, AreKeptPieces, AreOrdered, part_in, unit_of, units_in}
use Rattle.bc_memo.proofs.Parts.{part_snapshot}
use Rattle.bc_memo.proofs.Places.{at_name-filter, ordered-filter, passes-filter}

-- a unit with its name
abbrev pub unit_in : NameParts × Place → NameParts × Body
unit_in p = (p.0, p.1.unit)

-- the names of the closures of an entry
abbrev pub closures_at : NameParts × Place → List NameParts
closures_at p = children_named (unit_in p)

by_key : {V : Type 0} (P : NameParts → Type 0) (es : List (NameParts × V)) (i : ℕ) (d : NameParts × V) → AllByRecursion P (keys_of es) → i < length es → P (get_or es i d).0
by_key P [] i d all within = absurd (omega (arith, within))
by_key P (e ∷ es) zero d all within = all.0
by_key P (e ∷ es) (suc i) d all within = by_key P es i d all.1 (omega (arith, within))

mapped_at : {X Y : Type 0} (P : Y → Type 0) (f : X → Y) (xs : List X) (i : ℕ) (d : X) → AllByRecursion P (map f xs) → i < length xs → P (f (get_or xs i d))
mapped_at P f [] i d all within = absurd (omega (arith, within))
mapped_at P f (x ∷ xs) zero d all within = all.0
mapped_at P f (x ∷ xs) (suc i) d all within = mapped_at P f xs i d all.1 (omega (arith, within))

pub flat_over : {X Y Z : Type 0} (g : Y → List Z) (f : X → Y) (xs : List X) → flat_map g (map f xs) ≡ flat_map (λ x. g (f x)) xs
flat_over g f [] = refl
flat_over g f (x ∷ xs) = ap (λ l. g (f x) ++ l) (flat_over g f xs)

-- a name has room for the closures of its unit
pub entry_room : (root : NameParts) (ps : Places) (i : ℕ) (d : NameParts × Place) → AreKept ps → i < length (part_in root ps)
    → HasRoom (get_or (part_in root ps) i d).0 (get_or (part_in root ps) i d).1.unit
entry_room root ps i d kept within = (mapped_at (λ (u : NameParts × Body). Suits u.1 u.0) unit_in (part_in root ps) i d (part_snapshot root ps kept).suited within).room

-- the unit of an entry is stored at its name
entry_unit : (root : NameParts) (ps : Places) (i : ℕ) (d : NameParts × Place) → AreOrdered ps → i < length (part_in root ps)
    → unit_of (at_name ps (get_or (part_in root ps) i d).0) ≡ Some (get_or (part_in root ps) i d).1.unit
entry_unit root ps i d ordered within =
    let part = part_in root ps in
    let e : NameParts × Place = get_or part i d in
    let inside : is_within root e.0 ≡ true = by_key (λ (k : NameParts). is_within root k ≡ true) part i d (passes-filter (is_within root) ps) within in
    let there : at_name part e.0 ≡ Some e.1 = found part e.0 i d (ordered-filter (is_within root) ps ordered) within (tied_itself names_total e.0) in
    ap unit_of (sym (at_name-filter (is_within root) e.0 ps inside) ∙ there)

kept_of : (o : Option (Bor PieceView)) (s : ShelfView) (rows : PieceRows) (n : NameParts) (unit : Body) → option_copied o ≡ at_name rows n → AreKeptPieces s rows → unit_of (at_name s.places n) ≡ Some unit
    → IfSome o (λ piece. piece.now.unit ≡ unit)
kept_of None s rows n unit is kept there = tt
kept_of (Some piece) s rows n unit is kept there =
    let same : Some piece.now.unit ≡ Some unit = sym (kept.found n piece.now (sym is)).unit ∙ there in cc

-- a kept piece of an entry's name is of its unit
pub entry_piece : (o : Option (Bor PieceView)) (s : ShelfView) (rows : PieceRows) (root : NameParts) (i : ℕ) (d : NameParts × Place) → AreOrdered s.places → AreKeptPieces s rows
    → i < length (part_in root s.places) → option_copied o ≡ at_name rows (get_or (part_in root s.places) i d).0 → IfSome o (λ piece. piece.now.unit ≡ (get_or (part_in root s.places) i d).1.unit)
entry_piece o s rows root i d ordered kept within is =
    kept_of o s rows (get_or (part_in root s.places) i d).0 (get_or (part_in root s.places) i d).1.unit is kept (entry_unit root s.places i d ordered within)
