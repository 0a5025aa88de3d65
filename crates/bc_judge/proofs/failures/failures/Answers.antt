use Rattle.std.proofs.Common.{[], ◌≡◌, arith}
use Rattle.bc_flow.specs.Flow.{holds}
use Rattle.bc_judge.specs.Lifetimes.{failures_from}
use Rattle.bc_flow.proofs.Ranges.{range-turn}
use Rattle.bc_judge.proofs.failures.failures.Goals as goal

pub loop-longer-preserved : goal.loop-longer-preserved
loop-longer-preserved c =
    range-turn (failures_from c.args.typed.now (holds c.args.values.now) (holds c.args.known.now)) [] _ _ c.loop-longer.longer c.in_ok-push_failures.ensures c.loop-longer.invariant

pub returns : goal.returns
returns c =
    let all : c.loop-longer.longer ≡ c.args.typed.now.universals = omega arith in
    rw all at c.loop-longer.invariant
