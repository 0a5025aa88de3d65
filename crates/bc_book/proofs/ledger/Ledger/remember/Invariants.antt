use Rattle.std.proofs.Common.{◌≡◌, ◌≤◌, length}
use Rattle.bc_book.specs.Ledgers.{AreRows, SameButAnswers, remembering}
use Rattle.bc_book.proofs.ledger.Ledger.remember.Given as goal

abbrev pub invariant-loop-name : goal.invariant-loop-name
invariant-loop-name l = record {
  same : SameButAnswers l.initial.self l.self;
  room : length l.name-iterator.rest.items ≤ l.self.rows;
  rows : AreRows l.self.shelf l.self.entries l.name-iterator.rest.items;
  answers : remembering l.name-iterator.rest.items l.self.answers ≡ remembering l.fn.rows.items l.initial.self.answers;
}
