use Rattle.std.proofs.Common.{◌≡◌, ◌≤◌, length}
use Rattle.bc_memo.specs.Places.{most_rows, pieces_with}
use Rattle.bc_memo.proofs.pieces.PieceMemo.keep_all.Given as goal

abbrev pub invariant-loop-name : goal.invariant-loop-name
invariant-loop-name l = record {
  room : length l.name-iterator.rest.items ≤ l.self.room;
  rows : pieces_with l.name-iterator.rest.items l.self.rows ≡ pieces_with l.fn.pieces.items l.initial.self.rows;
  memory : most_rows l.self ≡ most_rows l.initial.self;
}
