use Rattle.bc_flow.specs.Flow.{holds}
use Rattle.bc_judge.specs.Lifetimes.{failure_of}
use Rattle.bc_flow.proofs.Ranges.{range-turn}
use Rattle.std.proofs.Common.{◌≡◌, arith}
use Rattle.bc_judge.proofs.failures.push_failures.Goals as goal

pub loop-shorter-preserved : goal.loop-shorter-preserved
loop-shorter-preserved c =
    range-turn (failure_of c.args.typed.now (holds c.args.values.now) (holds c.args.known.now) c.args.longer) _ _ _ c.loop-shorter.shorter c.in_ok-push_failure.ensures c.loop-shorter.invariant

pub returns : goal.returns
returns c =
    let all : c.loop-shorter.shorter ≡ c.args.typed.now.universals = omega arith in
    rw all at c.loop-shorter.invariant
