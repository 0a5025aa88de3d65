use Rattle.std.proofs.Common.{◌≡◌, ◌++◌, drop}
use Rattle.bc_memo.proofs.shelf.copies.Given as goal

abbrev pub invariant-loop-row : goal.invariant-loop-row
invariant-loop-row l = l.copies.items ++ drop l.row-index l.places ≡ l.places
