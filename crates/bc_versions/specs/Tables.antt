-- What a published table holds, and what an entry changes in it.
use Rattle.std.specs.Prelude.{◌≡◌, ℕ, Option, Some, None, List, [], ◌∷◌, ◌++◌}
use Rattle.bc_memo.specs.Places.{AreKeptPieces, PieceRows, ShelfView, changed, empty_shelf, pieces_after, pieces_with}
use Rattle.bc_calls.specs.declared.call.Entry.{Entry}
use Rattle.bc_calls.specs.Calls.{last_of}
use Rattle.bc_calls.specs.Changes.{change_of}
use Rattle.bc_calls.specs.Answers.{IsShelfOf}

-- the last entry, what is stored after it, and the kept pieces of that
pub record TableView : Type 0 where
  pub last : Option Entry
  pub shelf : ShelfView
  pub pieces : PieceRows

-- an entry, the revision that it gives to what it writes, and the pieces that it brings
pub record UpdateView : Type 0 where
  pub entry : Entry
  pub revision : ℕ
  pub pieces : PieceRows

-- an entry that is published, and the revision that it gives to what it writes
pub record PressedEntry : Type 0 where
  pub entry : Entry
  pub revision : ℕ

-- the entries that were published, and what is stored after them
pub record PressView : Type 0 where
  pub entries : List Entry
  pub shelf : ShelfView

-- a table with no entry, no declaration, no body and no piece
abbrev pub empty_table : TableView
empty_table = record { last = None; shelf = empty_shelf []; pieces = [] }

-- the table after one more entry: it keeps the pieces that the entry's change leaves, and those that come with the entry
abbrev pub updated : TableView → UpdateView → TableView
updated table u = record {
  last = Some u.entry;
  shelf = changed table.shelf (change_of u.entry.event) u.revision;
  pieces = pieces_with u.pieces (pieces_after (change_of u.entry.event) table.pieces);
}

-- what was published, with one more entry, and what is stored then
abbrev pub pressed : PressView → PressedEntry → PressView
pressed press p = record { entries = press.entries ++ p.entry ∷ []; shelf = changed press.shelf (change_of p.entry.event) p.revision }

-- the table of a history: its last entry, what the history leaves, and kept pieces of that
pub record IsTableOf (table : TableView) (h : List Entry) : Type 0 where
  pub last : table.last ≡ last_of h
  pub shelf : IsShelfOf table.shelf h
  pub pieces : AreKeptPieces table.shelf table.pieces
