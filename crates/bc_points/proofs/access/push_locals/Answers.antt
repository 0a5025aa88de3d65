use Rattle.std.proofs.Common.{arith}
use Rattle.std.proofs.lemmas.Grind.{common_steps}
use Rattle.bc_points.proofs.Returning.{return_accesses-more}
use Rattle.bc_points.proofs.access.push_locals.Goals as goal

pub loop-local-preserved : goal.loop-local-preserved
loop-local-preserved c =
    let more = return_accesses-more c.loop-local.local in
    grind (arith, common_steps)
