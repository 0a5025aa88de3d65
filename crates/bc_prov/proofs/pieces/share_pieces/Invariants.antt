use Rattle.std.proofs.Common.{◌≡◌, ◌++◌, drop}
use Rattle.bc_prov.proofs.pieces.share_pieces.Given as goal

abbrev pub invariant-loop-entry : goal.invariant-loop-entry
invariant-loop-entry l = l.shares.items ++ drop l.entry-index l.pieces ≡ l.pieces
