use Rattle.std.proofs.Common.{arith}
use Rattle.std.proofs.lemmas.Grind.{common_steps}
use Rattle.bc_prov.proofs.pieces.+same_kids.Goals as goal

pub returns-then-same_kid : goal.returns-then-same_kid
returns-then-same_kid t c = grind (arith, common_steps)

pub returns-in-empty : goal.returns-in-empty
returns-in-empty t c = grind (arith, common_steps)
