use Rattle.std.proofs.Common.{arith}
use Rattle.bc_reasons.proofs.Starting.{unused_starts, one_more_dead, all_dead}
use Rattle.bc_reasons.proofs.in_use.use_reason.Goals as goal

pub loop-local-preserved : goal.loop-local-preserved
loop-local-preserved c = one_more_dead c.args.typed.now c.args.region c.args.point c.loop-local.local (rw c.in-None.is at c.in_ok-path.ensures) c.loop-local.invariant

pub returns-clause-reason : goal.returns-clause-reason
returns-clause-reason c =
    all_dead c.args.typed.now c.args.region c.args.point c.loop-local.local (omega (arith, c.if-region-from.false, c.from.ensures, c.universals.ensures.value)) (rw c.locals-local-end.ensures.value at c.loop-local-test.false)
    c.loop-local.invariant

pub returns-clause-starts : goal.returns-clause-starts
returns-clause-starts c = λ live tells starts. absurd (unused_starts c.args.typed.now c.args.region c.args.point (returns-clause-reason c) live tells starts)
