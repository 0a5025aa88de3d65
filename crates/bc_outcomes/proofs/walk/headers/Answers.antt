use Rattle.std.proofs.Common.{arith}
use Rattle.std.proofs.lemmas.Grind.{common_steps}
use Rattle.bc_outcomes.proofs.walk.headers.Goals as goal

pub loop-kid-preserved : goal.loop-kid-preserved
loop-kid-preserved c = grind (arith, common_steps)
