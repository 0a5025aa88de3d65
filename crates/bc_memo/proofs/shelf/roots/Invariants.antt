use Rattle.std.proofs.Common.{◌≡◌, ◌++◌, drop}
use Rattle.bc_memo.specs.Places.{roots_in}
use Rattle.bc_memo.proofs.shelf.roots.Given as goal

abbrev pub invariant-loop-row : goal.invariant-loop-row
invariant-loop-row l = l.names.items ++ roots_in (drop l.row-index l.places) ≡ roots_in l.places
