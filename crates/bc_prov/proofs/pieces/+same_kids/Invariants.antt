use Rattle.std.proofs.Common.{length}
use Rattle.bc_prov.proofs.pieces.+same_kids.Given as goal

abbrev pub decreases-same_kids : goal.decreases-same_kids
decreases-same_kids l = length l.one.now
