use Rattle.std.proofs.Common.{arith}
use Rattle.std.proofs.lemmas.Grind.{common_steps}
use Rattle.bc_groups.proofs.components.agreed.Goals as goal

pub loop-node-preserved : goal.loop-node-preserved
loop-node-preserved c = record { count = grind (arith, common_steps); agreed = grind (arith, common_steps) }
