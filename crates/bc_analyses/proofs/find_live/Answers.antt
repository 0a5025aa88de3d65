use Rattle.bc_flow.specs.Flow.{holds}
use Rattle.bc_live.specs.Live.{IsLive}
use Rattle.bc_solve.proofs.Telling.{told}
use Rattle.bc_analyses.proofs.find_live.Goals as goal

pub returns : goal.returns
returns c = told (holds c.in_ok-sets.sets) (IsLive c.args.typed.now) c.in_ok-sets.ensures.live
