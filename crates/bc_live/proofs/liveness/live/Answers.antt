use Rattle.bc_live.proofs.Paths.{rows_are_live}
use Rattle.bc_live.proofs.liveness.live.Goals as goal

pub transposed-requires : goal.transposed-requires
transposed-requires c = rw c.locals.ensures.value c.in_ok-by_point.ensures.locals

pub returns-clause-points : goal.returns-clause-points
returns-clause-points c = rw c.in_ok-by_point.ensures.points at c.in_ok-rows.ensures.nodes

pub returns-clause-live : goal.returns-clause-live
returns-clause-live c =
    rows_are_live c.args.typed.now c.in_ok-by_point.by_point c.in_ok-rows.rows c.in_ok-rows.ensures.members c.in_ok-by_point.ensures.live
