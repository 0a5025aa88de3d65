use Rattle.std.proofs.Common.{arith}
use Rattle.std.proofs.lemmas.Grind.{common_steps}
use Rattle.bc_reasons.proofs.Parting.{return_parts-more}
use Rattle.bc_reasons.proofs.part.push_return.Goals as goal

pub loop-local-preserved : goal.loop-local-preserved
loop-local-preserved c =
    let more = return_parts-more c.loop-local._local in
    grind (arith, common_steps)
