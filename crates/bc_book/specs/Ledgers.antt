-- The history as a ledger keeps it, with what it leaves.
use Rattle.std.specs.Prelude.{◌≡◌, ◌↔◌, ℕ, ◌^◌, ◌<◌, ◌≤◌, false, Option, Some, None, IsSome, List, [], ◌∷◌, ◌++◌, length, slice_index}
use Rattle.std.specs.List.{AllByRecursion}
use Rattle.std.specs.Map.{remove_entry}
use Rattle.std.specs.BTreeMap.{is_at, insert_entry}
use Rattle.bc_names.specs.Names.{NameParts, name_order}
use Rattle.bc_prov.specs.State.{Bodies, at_name}
use Rattle.bc_prov.specs.declared.outcome.Outcome.{Outcome}
use Rattle.bc_prov.specs.Outcome.{IsOutcomeIn}
use Rattle.bc_memo.specs.declared.memo.Remembered.{Remembered}
use Rattle.bc_memo.specs.declared.change.Change.{Change}
use Rattle.bc_memo.specs.declared.change.Change.TheVariants as changes
use Rattle.bc_memo.specs.Memos.{IsRemembered, Stands}
use Rattle.bc_memo.specs.Places.{PieceRows, ShelfView, AreOrdered, changed, empty_shelf, unit_of}
use Rattle.bc_calls.specs.declared.call.PutReply.TheVariants.{Added}
use Rattle.bc_calls.specs.declared.call.Event.{Event}
use Rattle.bc_calls.specs.declared.call.Event.TheVariants.{Types, Put, Remove, Ask, All as EveryRoot}
use Rattle.bc_calls.specs.declared.call.Entry.{Entry}
use Rattle.bc_book.specs.declared.ledger.Refusal.{Refusal}
use Rattle.bc_book.specs.declared.ledger.Refusal.TheVariants.{HistoryFull}
use Rattle.bc_calls.specs.Calls.{most_bodies, after, count_of, IsReply, IsLegal}
use Rattle.bc_calls.specs.Changes.{change_of, writes_after, writes_of}
use Rattle.bc_calls.specs.Answers.{IsShelfOf, asks}
use Rattle.bc_book.specs.Memory.{IsRight, ArePast}

-- the most entries that there may be, the entries, what is stored, what is remembered, and the kept pieces; for how many more entries,
-- places, answers and pieces there is room; and the outcomes that are ready for a change that brings many
pub record LedgerView : Type 0 where
  pub capacity : ℕ
  pub entries : List Entry
  pub shelf : ShelfView
  pub answers : List (NameParts × Remembered)
  pub pieces : PieceRows
  pub room : ℕ
  pub places : ℕ
  pub rows : ℕ
  pub piece_room : ℕ
  pub ready : List (NameParts × Outcome)

-- how many sessions a database may have
abbrev pub most_sessions : ℕ
most_sessions = 16

-- the counts say how many entries each session has
abbrev pub AreCounts : List ℕ → List Entry → Type 0
AreCounts counts h = (session : ℕ) → session < most_sessions → slice_index counts session ≡ count_of session h

-- The history is legal and not too long. The counts, the declarations, the bodies and the answers are those that it leaves. What is
-- remembered is of names that hold a body, sorted by name, and is right while all that it was found from has its revision.
pub record IsLedger (capacity : ℕ) (h : List Entry) (counts : List ℕ) (writes : ℕ) (shelf : ShelfView) (answers : List (NameParts × Remembered)) : Type 0 where
  pub legal : IsLegal h
  pub bounded : capacity < 2 ^ 32
  pub short : length h ≤ capacity
  pub counted : AreCounts counts h
  pub sized : length counts ≡ most_sessions
  pub written : writes ≡ writes_of h
  pub shelf_of : IsShelfOf shelf h
  pub few : length shelf.places ≤ most_bodies
  pub past : ArePast shelf h
  pub sorted : AreOrdered answers
  pub held : (name : NameParts) (row : Remembered) → at_name answers name ≡ Some row → IsSome (at_name shelf.places name)
  pub right : (name : NameParts) (row : Remembered) → at_name answers name ≡ Some row → IsRight shelf h name row

-- two ledgers have the same history, and store, remember and keep the same
pub record SameLedger (one other : LedgerView) : Type 0 where
  pub capacity : other.capacity ≡ one.capacity
  pub entries : other.entries ≡ one.entries
  pub shelf : other.shelf ≡ one.shelf
  pub answers : other.answers ≡ one.answers
  pub pieces : other.pieces ≡ one.pieces

-- two ledgers are the same, except for what is remembered and the room for it
pub record SameButAnswers (one other : LedgerView) : Type 0 where
  pub capacity : other.capacity ≡ one.capacity
  pub entries : other.entries ≡ one.entries
  pub shelf : other.shelf ≡ one.shelf
  pub pieces : other.pieces ≡ one.pieces
  pub room : other.room ≡ one.room
  pub places : other.places ≡ one.places
  pub ready : other.ready ≡ one.ready

-- two ledgers are the same, except for the kept pieces and the room for them
pub record SameButPieces (one other : LedgerView) : Type 0 where
  pub capacity : other.capacity ≡ one.capacity
  pub entries : other.entries ≡ one.entries
  pub shelf : other.shelf ≡ one.shelf
  pub answers : other.answers ≡ one.answers
  pub room : other.room ≡ one.room
  pub places : other.places ≡ one.places
  pub rows : other.rows ≡ one.rows
  pub ready : other.ready ≡ one.ready

-- this row may be remembered for a name: the name holds a body, and the row is right and still valid
pub record IsRow (shelf : ShelfView) (h : List Entry) (name : NameParts) (row : Remembered) : Type 0 where
  pub held : IsSome (at_name shelf.places name)
  pub right : IsRight shelf h name row
  pub stands : Stands shelf row

-- with this row, or without one, the outcome of a name that holds a body is remembered
abbrev pub Recalls : ShelfView → List (NameParts × Remembered) → NameParts → Outcome → Option (NameParts × Remembered) → Type 0
Recalls shelf rows name outcome None = IsSome (at_name shelf.places name) → IsRemembered shelf rows name (Some outcome)
Recalls shelf rows name outcome (Some row) = (row.0 ≡ name) × (row.1.outcome ≡ outcome)

-- all these rows may be remembered
abbrev pub AreRows : ShelfView → List Entry → List (NameParts × Remembered) → Type 0
AreRows shelf h rows = AllByRecursion (λ (r : NameParts × Remembered). IsRow shelf h r.0 r.1) rows

-- what is remembered once these rows are added, one after the other
abbrev pub remembering : List (NameParts × Remembered) → List (NameParts × Remembered) → List (NameParts × Remembered)
remembering [] rows = rows
remembering (r ∷ more) rows = remembering more (insert_entry name_order rows r.0 r.1)

-- the row, if there is one, as a list
abbrev pub row_list : Option (NameParts × Remembered) → List (NameParts × Remembered)
row_list None = []
row_list (Some row) = row ∷ []

-- what is still remembered after a change: nothing for a name whose body is removed
abbrev pub kept_rows : Change → List (NameParts × Remembered) → List (NameParts × Remembered)
kept_rows (changes.Types types) rows = rows
kept_rows (changes.Put name unit) rows = rows
kept_rows (changes.Remove name) rows = remove_entry (is_at (name_order name)) rows
kept_rows (changes.Answer name outcome) rows = rows
kept_rows (changes.Answers listing) rows = rows
kept_rows changes.Nothing rows = rows

-- the outcome of each of these names is remembered and still valid
abbrev pub RemembersEach : ShelfView → List (NameParts × Remembered) → List (NameParts × Outcome) → Type 0
RemembersEach shelf answers rows = AllByRecursion (λ (r : NameParts × Outcome). IsRemembered shelf answers r.0 (Some r.1)) rows

-- what was found for some roots: each outcome is right, the added rows may be remembered and are of these names, and with them the outcome
-- of each name is remembered
pub record IsFoundAll (shelf : ShelfView) (h : List Entry) (answers : List (NameParts × Remembered)) (listing : List (NameParts × Outcome)) (added : List (NameParts × Remembered)) : Type 0 where
  pub right : AllByRecursion (λ (r : NameParts × Outcome). IsOutcomeIn (after h) r.0 r.1) listing
  pub rows : AreRows shelf h added
  pub named : AllByRecursion (λ (r : NameParts × Remembered). IsSome (at_name listing r.0)) added
  pub remembered : RemembersEach shelf (remembering added answers) listing

-- the body that is stored at each name
abbrev pub bodies_of : ShelfView → Bodies
bodies_of shelf = λ name. unit_of (at_name shelf.places name)

-- a body is added only if fewer are stored than may be
abbrev pub HasPlace : ℕ → Event → Type 0
HasPlace held (Types types) = Unit {0}
HasPlace held (Put name body reply) = reply ≡ Added → held < most_bodies
HasPlace held (Remove name reply) = Unit {0}
HasPlace held (Ask name outcome) = Unit {0}
HasPlace held (EveryRoot listing) = Unit {0}

-- the most entries that there may be, the entries, what is stored, what is remembered, and the kept pieces
pub record BookView : Type 0 where
  pub capacity : ℕ
  pub entries : List Entry
  pub shelf : ShelfView
  pub answers : List (NameParts × Remembered)
  pub pieces : PieceRows

-- a book of at most this many entries, which has no entry, no declaration and no body, remembers nothing, and keeps no piece
abbrev pub empty_book : ℕ → BookView
empty_book capacity = record { capacity = capacity; entries = []; shelf = empty_shelf []; answers = []; pieces = [] }

-- The entry is added, with its session's next number: the call, and the right reply for what is stored. What is stored changes as the event
-- says. What the event writes has the count of accepted writes, with it, as its revision. The history stays legal.
pub record Appends (session : ℕ) (event : Event) (old new : BookView) : Type 0 where
  pub right : IsReply (after old.entries) event
  pub capacity : new.capacity ≡ old.capacity
  pub entries : new.entries ≡ old.entries ++ record { session = session; number = count_of session old.entries; event = event } ∷ []
  pub shelf : new.shelf ≡ changed old.shelf (change_of event) (writes_after (writes_of old.entries) event)
  pub legal : IsLegal new.entries

-- after an event that is no ask, the same is remembered, except for a name whose body is removed
abbrev pub Keeps : Event → BookView → BookView → Type 0
Keeps event old new = new.answers ≡ kept_rows (change_of event) old.answers

-- the outcome of a name that holds a body is remembered and still valid
abbrev pub Remembers : NameParts → Outcome → BookView → Type 0
Remembers name outcome book = IsSome (at_name book.shelf.places name) → IsRemembered book.shelf book.answers name (Some outcome)

-- the same is remembered for every name that the event does not ask for
abbrev pub KeepsUnasked : Event → BookView → BookView → Type 0
KeepsUnasked event old new = (name : NameParts) → asks name event ≡ false → at_name new.answers name ≡ at_name old.answers name

-- the same is remembered for every other name
abbrev pub KeepsOthers : NameParts → BookView → BookView → Type 0
KeepsOthers name old new = (other : NameParts) → (other ≡ name → ⊥) → at_name new.answers other ≡ at_name old.answers other

-- the refusal is `HistoryFull` exactly if the book has as many entries as it may have
abbrev pub IsFull : BookView → Refusal → Type 0
IsFull book refusal = refusal ≡ HistoryFull ↔ length book.entries ≡ book.capacity
