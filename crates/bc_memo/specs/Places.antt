-- What is stored, with its revisions and its answers, and what a change makes of it.
use Rattle.std.specs.Prelude.{◌≡◌, ℕ, ◌+◌, ◌<◌, ◌≤◌, Bool, true, false, Option, Some, None, List, [], ◌∷◌, length, map, filter, slice_index_or, if◌then◌else◌}
use Rattle.std.specs.Option.{option_or}
use Rattle.std.specs.Ordering.{is_gt}
use Rattle.std.specs.declared.cmp.Ordering.TheVariants.{Less, Greater}
use Rattle.std.specs.Map.{keys_of, remove_entry}
use Rattle.std.specs.BTreeMap.{is_at, insert_entry}
use Rattle.std.specs.List.{AllByRecursion}
use Rattle.std.specs.List.Sorted.{IsStrictlySortedBy}
use Rattle.bc_syntax.specs.declared.syntax.Declaration.{Declaration}
use Rattle.bc_syntax.specs.declared.syntax.Body.{Body}
use Rattle.bc_names.specs.Names.{NameParts, name_order, is_same_name, is_within}
use Rattle.bc_prov.specs.State.{Suits, at_name, is_root}
use Rattle.bc_prov.specs.Pieces.{PieceView, IsPieceFor}
use Rattle.bc_prov.specs.Snapshots.{SnapshotView}
use Rattle.bc_prov.specs.Outcome.{OutcomeRows}
use Rattle.bc_prov.specs.declared.outcome.Outcome.{Outcome}
use Rattle.bc_memo.specs.declared.place.Place.{Place}
use Rattle.bc_memo.specs.declared.change.Change.{Change}
use Rattle.bc_memo.specs.declared.change.Change.TheVariants.{Types, Put, Remove, Answer, Answers, Nothing}

-- places, each with its name
abbrev pub Places : Type 0
Places = List (NameParts × Place)

-- declarations with their revision, and places
pub record ShelfView : Type 0 where
  pub types : List Declaration
  pub types_revision : ℕ
  pub places : Places

-- pieces of bodies, each with the body's name
abbrev pub PieceRows : Type 0
PieceRows = List (NameParts × PieceView)

-- the kept pieces, and for how many more there is room
pub record PieceRoom : Type 0 where
  pub rows : PieceRows
  pub room : ℕ

-- what is stored, the outcomes that are ready for a change, and for how many more of each there is room
pub record ShelfRoom : Type 0 where
  pub held : ShelfView
  pub room : ℕ
  pub ready : OutcomeRows
  pub ready_room : ℕ

-- how many pieces there is room for in all
abbrev pub most_rows : PieceRoom → ℕ
most_rows memo = memo.room + length memo.rows

-- how many places there is room for in all
abbrev pub most_places : ShelfRoom → ℕ
most_places shelf = shelf.room + length shelf.held.places

-- how many outcomes there is room for in all, to make ready
abbrev pub most_ready : ShelfRoom → ℕ
most_ready shelf = shelf.ready_room + length shelf.ready

-- a shelf with these declarations and no unit
abbrev pub empty_shelf : List Declaration → ShelfView
empty_shelf types = record { types = types; types_revision = 0; places = [] }

-- the names ascend strictly
abbrev pub AreOrdered : {V : Type 0} → List (NameParts × V) → Type 0
AreOrdered entries = IsStrictlySortedBy name_order (keys_of entries)

-- the names ascend, and each unit suits its name
pub record AreKept (places : Places) : Type 0 where
  pub ordered : AreOrdered places
  pub suited : AllByRecursion (λ (p : NameParts × Place). Suits p.1.unit p.0) places

-- the unit of a place, if there is one
abbrev pub unit_of : Option Place → Option Body
unit_of None = None
unit_of (Some place) = Some place.unit

-- the revision of a place, if there is one
abbrev pub revision_of : Option Place → Option ℕ
revision_of None = None
revision_of (Some place) = Some place.revision

-- the answer of a place, if there is one
abbrev pub answer_of : Option Place → Option Outcome
answer_of None = None
answer_of (Some place) = place.answer

-- each piece was found from these declarations and from the unit that is stored at its name
abbrev pub AreHeldPieces : List Declaration → Places → PieceRows → Type 0
AreHeldPieces types places pieces = (name : NameParts) (piece : PieceView) → at_name pieces name ≡ Some piece → IsPieceFor types (unit_of (at_name places name)) piece

-- kept pieces of what is stored: sorted by name, each found from the stored declarations and from the unit at its name
pub record AreKeptPieces (shelf : ShelfView) (rows : PieceRows) : Type 0 where
  pub sorted : AreOrdered rows
  pub found : AreHeldPieces shelf.types shelf.places rows

-- each of these pieces was found from the stored declarations and from the unit at its name
abbrev pub AreFitting : ShelfView → PieceRows → Type 0
AreFitting shelf rows = AllByRecursion (λ (p : NameParts × PieceView). IsPieceFor shelf.types (unit_of (at_name shelf.places p.0)) p.1) rows

-- the revision of a name; a name that holds no body has none
abbrev pub revision_at : ShelfView → NameParts → Option ℕ
revision_at shelf name = revision_of (at_name shelf.places name)

-- a newly written place, without an answer
abbrev pub written : Body → ℕ → Place
written unit revision = record { unit = unit; revision = revision; answer = None }

-- a unit that the change puts at a name suits it
abbrev pub MayChange : Change → Type 0
MayChange (Types types) = Unit {0}
MayChange (Put name unit) = Suits unit name
MayChange (Remove name) = Unit {0}
MayChange (Answer name outcome) = Unit {0}
MayChange (Answers rows) = Unit {0}
MayChange Nothing = Unit {0}

-- the outcomes that the change moves into the places of many names are ready
abbrev pub IsReady : Change → OutcomeRows → Type 0
IsReady (Types types) ready = Unit {0}
IsReady (Put name unit) ready = Unit {0}
IsReady (Remove name) ready = Unit {0}
IsReady (Answer name outcome) ready = Unit {0}
IsReady (Answers rows) ready = ready ≡ rows
IsReady Nothing ready = Unit {0}

-- the places after a change, except for their answers
abbrev pub placed : Places → Change → ℕ → Places
placed places (Types types) revision = places
placed places (Put name unit) revision = insert_entry name_order places name (written unit revision)
placed places (Remove name) revision = remove_entry (is_at (name_order name)) places
placed places (Answer name outcome) revision = places
placed places (Answers rows) revision = places
placed places Nothing revision = places

-- the change makes the answer of a name void: it brings declarations, or it writes the name or one that begins with it and `/`
abbrev pub voids : Change → NameParts → Bool
voids (Types types) name = true
voids (Put other unit) name = is_within name other
voids (Remove other) name = is_within name other
voids (Answer other outcome) name = false
voids (Answers rows) name = false
voids Nothing name = false

-- the answer that a change brings for a name, if any
abbrev pub brought : Change → NameParts → Option Outcome
brought (Types types) name = None
brought (Put other unit) name = None
brought (Remove other) name = None
brought (Answer other outcome) name = if is_same_name other name then Some outcome else None
brought (Answers rows) name = at_name rows name
brought Nothing name = None

-- the answer of a name after a change
abbrev pub next_answer : Change → NameParts → Option Outcome → Option Outcome
next_answer change name before = if voids change name then None else option_or (brought change name) before

-- the place with another answer
abbrev pub with_answer : Place → Option Outcome → Place
with_answer place answer = record { unit = place.unit; revision = place.revision; answer = answer }

-- the place of a name with its answer after a change
abbrev pub mark : Change → NameParts → Place → Place
mark change name place = with_answer place (next_answer change name place.answer)

-- the places with their answers after a change
abbrev pub marked : Change → Places → Places
marked change places = map (λ (p : NameParts × Place). (p.0, mark change p.0 p.1)) places

-- the places with this answer at a name, if it has a place
abbrev pub with_answer_at : NameParts → Option Outcome → Places → Places
with_answer_at name answer places = map (λ (p : NameParts × Place). (p.0, if is_same_name name p.0 then with_answer p.1 answer else p.1)) places

-- the places without the answers of a name and of the names above it
abbrev pub cleared : NameParts → Places → Places
cleared name places = map (λ (p : NameParts × Place). (p.0, if is_within p.0 name then with_answer p.1 None else p.1)) places

-- the places without answers
abbrev pub unanswered : Places → Places
unanswered places = map (λ (p : NameParts × Place). (p.0, with_answer p.1 None)) places

-- the declarations after a change
abbrev pub next_types : List Declaration → Change → List Declaration
next_types held (Types types) = types
next_types held (Put name unit) = held
next_types held (Remove name) = held
next_types held (Answer name outcome) = held
next_types held (Answers rows) = held
next_types held Nothing = held

-- the revision of the declarations after a change
abbrev pub next_types_revision : ℕ → Change → ℕ → ℕ
next_types_revision before (Types types) revision = revision
next_types_revision before (Put name unit) revision = before
next_types_revision before (Remove name) revision = before
next_types_revision before (Answer name outcome) revision = before
next_types_revision before (Answers rows) revision = before
next_types_revision before Nothing revision = before

-- what is stored after a change, which gives what it writes this revision
abbrev pub changed : ShelfView → Change → ℕ → ShelfView
changed shelf change revision = record {
  types = next_types shelf.types change;
  types_revision = next_types_revision shelf.types_revision change revision;
  places = marked change (placed shelf.places change revision);
}

-- the pieces that are kept after a change: declarations drop all, and a unit that is put or removed drops only the piece of its name
abbrev pub pieces_after : Change → PieceRows → PieceRows
pieces_after (Types types) pieces = []
pieces_after (Put name unit) pieces = remove_entry (is_at (name_order name)) pieces
pieces_after (Remove name) pieces = remove_entry (is_at (name_order name)) pieces
pieces_after (Answer name outcome) pieces = pieces
pieces_after (Answers rows) pieces = pieces
pieces_after Nothing pieces = pieces

-- the pieces and these more, one after the other, each in place of the one of its name
abbrev pub pieces_with : PieceRows → PieceRows → PieceRows
pieces_with [] rows = rows
pieces_with (p ∷ more) rows = pieces_with more (insert_entry name_order rows p.0 p.1)

-- the part of a name: the entries of the name and of those that begin with it and `/`
abbrev pub part_in : {V : Type 0} → NameParts → List (NameParts × V) → List (NameParts × V)
part_in {V} root entries = filter (λ (p : NameParts × V). is_within root p.0) entries

-- the bodies in the part of a name
abbrev pub units_in : NameParts → Places → List (NameParts × Body)
units_in root places = map (λ (p : NameParts × Place). (p.0, p.1.unit)) (part_in root places)

-- the revisions in the part of a name
abbrev pub revisions_in : NameParts → Places → List ℕ
revisions_in root places = map (λ (p : NameParts × Place). p.1.revision) (part_in root places)

-- the roots among the names, in their order
abbrev pub roots_in : {V : Type 0} → List (NameParts × V) → List NameParts
roots_in entries = filter is_root (keys_of entries)

-- the snapshot has the stored declarations and the bodies at its root and at names that begin with it and `/`, with these revisions
pub record IsHeld (shelf : ShelfView) (snapshot : SnapshotView) (types_at : ℕ) (units_at : List ℕ) : Type 0 where
  pub types_revision : types_at ≡ shelf.types_revision
  pub revisions : units_at ≡ revisions_in snapshot.root shelf.places
  pub types : snapshot.types ≡ shelf.types
  pub units : snapshot.units ≡ units_in snapshot.root shelf.places

-- the name comes after all entries before an index
abbrev pub IsAbove : {V : Type 0} → List (NameParts × V) → NameParts → ℕ → Type 0
IsAbove {V} entries name place = (j : ℕ) (d : NameParts × V) → j < place → name_order name (slice_index_or entries j d).0 ≡ Greater

-- the name comes before all entries from an index on
abbrev pub IsBelow : {V : Type 0} → List (NameParts × V) → NameParts → ℕ → Type 0
IsBelow {V} entries name place = (j : ℕ) (d : NameParts × V) → place ≤ j → j < length entries → name_order name (slice_index_or entries j d).0 ≡ Less

-- all entries before an index come before the name, and none from it on does
pub record IsStartAt {V : Type 0} (entries : List (NameParts × V)) (name : NameParts) (place : ℕ) : Type 0 where
  pub within : place ≤ length entries
  pub above : IsAbove entries name place
  pub later : (j : ℕ) (d : NameParts × V) → place ≤ j → j < length entries → is_gt (name_order name (slice_index_or entries j d).0) ≡ false

-- the entry at an index has the name
pub record IsFoundAt {V : Type 0} (entries : List (NameParts × V)) (name : NameParts) (place : ℕ) : Type 0 where
  pub within : place < length entries
  pub above : IsAbove entries name place
  pub at : (d : NameParts × V) → (slice_index_or entries place d).0 ≡ name

-- the name is absent, and would be inserted at an index
pub record IsGapAt {V : Type 0} (entries : List (NameParts × V)) (name : NameParts) (place : ℕ) : Type 0 where
  pub within : place ≤ length entries
  pub above : IsAbove entries name place
  pub below : IsBelow entries name place
