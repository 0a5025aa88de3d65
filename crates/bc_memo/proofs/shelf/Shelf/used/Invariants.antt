use Rattle.std.proofs.Common.{◌≡◌, ◌∷◌, ◌++◌, drop}
use Rattle.std.specs.List.{flat_map}
use Rattle.bc_memo.proofs.Closures.{closures_at}
use Rattle.bc_memo.proofs.shelf.Shelf.used.Given as goal

abbrev pub invariant-loop-row : goal.invariant-loop-row
invariant-loop-row l = l.names.items ++ flat_map closures_at (drop l.row-index l.row-items) ≡ l.root ∷ flat_map closures_at l.row-items
