use Rattle.std.proofs.Common.{◌≡◌, ◌++◌, take, drop}
use Rattle.bc_memo.specs.Places.{unanswered}
use Rattle.bc_memo.proofs.shelf.clear_rows.Given as goal

abbrev pub invariant-loop-row : goal.invariant-loop-row
invariant-loop-row l = l.rows ≡ unanswered (take l.row-index l.initial.rows) ++ drop l.row-index l.initial.rows
