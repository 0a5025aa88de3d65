use Rattle.std.proofs.Common.{◌≡◌, take}
use Rattle.std.specs.Map.{keys_of}
use Rattle.bc_memo.specs.Places.{AreFitting}
use Rattle.bc_book.specs.Ledgers.{IsFoundAll}
use Rattle.bc_book.proofs.ledger.Ledger.outcomes.Given as goal

abbrev pub invariant-loop-name : goal.invariant-loop-name
invariant-loop-name g l = record {
  names : keys_of l.found.listing.items ≡ take l.name-index l.name-items;
  over : l.found.pieces.types ≡ l.self.shelf.types;
  fit : AreFitting l.self.shelf l.found.pieces.rows;
  found : IsFoundAll l.self.shelf l.self.entries l.self.answers l.found.listing.items l.found.rows.items;
}
