use Rattle.std.proofs.Common.{◌≡◌, ◌≤◌, length, vec_capacity, reverse}
use Rattle.bc_memo.specs.Places.{most_rows, pieces_with}
use Rattle.bc_versions.proofs.table.keep_ready.Given as goal

abbrev pub invariant-loop-row : goal.invariant-loop-row
invariant-loop-row l = record {
  room : length l.ready.items ≤ l.pieces.room;
  rows : pieces_with (reverse l.ready.items) l.pieces.rows ≡ pieces_with l.fn.ready.items l.fn.pieces.rows;
  memory : most_rows l.fn.pieces ≤ most_rows l.pieces;
  capacity : vec_capacity l.ready ≡ vec_capacity l.fn.ready;
}

abbrev pub decreases-loop-row : goal.decreases-loop-row
decreases-loop-row l = length l.ready.items
