-- What an entry leaves of a book, from what each step leaves of its ledger and of what is published.
use Rattle.std.proofs.Common.{◌≡◌, ℕ, List, [], ◌∷◌, ◌++◌, ap, sym, ◌∙◌, Result, Ok, Err}
use Rattle.std.specs.Prelude.{OnErr}
use Rattle.bc_names.specs.Names.{NameParts}
use Rattle.bc_memo.specs.declared.change.Change.{Change}
use Rattle.bc_memo.specs.declared.memo.Remembered.{Remembered}
use Rattle.bc_memo.specs.Places.{PieceRows, ShelfView, changed, pieces_after, pieces_with}
use Rattle.bc_calls.specs.declared.call.Event.{Event}
use Rattle.bc_calls.specs.declared.call.Entry.{Entry}
use Rattle.bc_calls.specs.Calls.{IsLegal, IsReply, after, count_of}
use Rattle.bc_calls.specs.Changes.{change_of, writes_after, writes_of}
use Rattle.bc_versions.specs.Tables.{PressView, pressed}
use Rattle.bc_book.specs.Ledgers.{Appends, BookView, LedgerView, SameButAnswers, SameButPieces, SameLedger, kept_rows, remembering}

-- the book of a ledger
abbrev pub book_of : LedgerView → BookView
book_of l = record { capacity = l.capacity; entries = l.entries; shelf = l.shelf; answers = l.answers; pieces = l.pieces }

-- the same ledger gives the same book
pub same_book : (one other : LedgerView) → SameLedger one other → book_of other ≡ book_of one
same_book one other same = λ i. record { capacity = same.capacity i; entries = same.entries i; shelf = same.shelf i; answers = same.answers i; pieces = same.pieces i }

-- what holds also holds if a call fails
pub on_err : {A E : Type 0} (r : Result A E) (P : Type 0) → P → OnErr r P
on_err (Ok a) P is = tt
on_err (Err e) P is = is

-- what is published is what the same ledger stores
pub still_published : (one other : LedgerView) (press : PressView) → SameLedger one other → press ≡ record { entries = one.entries; shelf = one.shelf } → press ≡ record { entries = other.entries; shelf = other.shelf }
still_published one other press same is = is ∙ (λ i. record { entries = sym same.entries i; shelf = sym same.shelf i })

-- an event that is entered after the ledger was made ready for it
module _ (l ready more rest new : LedgerView) (session number revision : ℕ) (event : Event) (change : Change)
    (same : SameLedger l ready) (placed : SameButPieces ready more) (answered : SameButAnswers more rest)
    (is : change ≡ change_of event)
    (entries : new.entries ≡ rest.entries ++ record { session = session; number = number; event = event } ∷ [])
    (shelf : new.shelf ≡ changed rest.shelf change revision) where
  entered : new.entries ≡ l.entries ++ record { session = session; number = number; event = event } ∷ []
  entered = entries ∙ ap (λ (h : List Entry). h ++ record { session = session; number = number; event = event } ∷ []) (answered.entries ∙ placed.entries ∙ same.entries)

  held : new.shelf ≡ changed l.shelf (change_of event) revision
  held = shelf ∙ ap (λ (s : ShelfView). changed s change revision) (answered.shelf ∙ placed.shelf ∙ same.shelf) ∙ ap (λ (c : Change). changed l.shelf c revision) is

  pub entered_book : IsReply (after l.entries) event → number ≡ count_of session ready.entries → revision ≡ writes_after (writes_of ready.entries) event → new.capacity ≡ rest.capacity → IsLegal new.entries
      → Appends session event (book_of l) (book_of new)
  entered_book reply counted written capacity legal = record {
    right = reply;
    capacity = capacity ∙ answered.capacity ∙ placed.capacity ∙ same.capacity;
    entries = entered ∙ ap (λ (n : ℕ). l.entries ++ record { session = session; number = n; event = event } ∷ []) (counted ∙ ap (count_of session) same.entries);
    shelf = held ∙ ap (changed l.shelf (change_of event)) (written ∙ ap (λ (h : List Entry). writes_after (writes_of h) event) same.entries);
    legal = legal;
  }

  -- and what is published is what is stored
  pub published_book : (before press : PressView) → before ≡ record { entries = l.entries; shelf = l.shelf }
      → press ≡ pressed before (record { entry = record { session = session; number = number; event = event }; revision = revision }) → press ≡ record { entries = new.entries; shelf = new.shelf }
  published_book before press was now =
      now
      ∙ ap (λ (p : PressView). pressed p (record { entry = record { session = session; number = number; event = event }; revision = revision })) was
      ∙ (λ i. record { entries = sym entered i; shelf = sym held i })

  -- and what is remembered is what was, with these rows, as the event leaves it
  pub kept_book : (rows : List (NameParts × Remembered)) → new.answers ≡ kept_rows change rest.answers → rest.answers ≡ remembering rows more.answers → new.answers ≡ kept_rows (change_of event) (remembering rows l.answers)
  kept_book rows kept remembered =
      kept
      ∙ ap (λ (c : Change). kept_rows c rest.answers) is
      ∙ ap (kept_rows (change_of event)) (remembered ∙ ap (remembering rows) (placed.answers ∙ same.answers))

  -- and what is kept is what was, with these pieces, as the event leaves it
  pub pieces_book : (pieces : PieceRows) → new.pieces ≡ pieces_after change rest.pieces → more.pieces ≡ pieces_with pieces ready.pieces → new.pieces ≡ pieces_after (change_of event) (pieces_with pieces l.pieces)
  pieces_book pieces left kept =
      left
      ∙ ap (λ (c : Change). pieces_after c rest.pieces) is
      ∙ ap (pieces_after (change_of event)) (answered.pieces ∙ kept ∙ ap (pieces_with pieces) same.pieces)
