use Rattle.std.proofs.Common.{arith}
use Rattle.bc_flow.specs.Flow.{holds}
use Rattle.bc_loans.specs.Flows.{inside}
use Rattle.bc_loans.proofs.Closing.{walks_is_walked}
use Rattle.bc_loans.proofs.Sweeping.{AreWalked-all}
use Rattle.bc_loans.proofs.sweeps.swept_rows.Goals as goal

pub returns-clause-walked : goal.returns-clause-walked
returns-clause-walked c = λ l p.
    let flow = c.args.flow.now in
    let walks = AreWalked-all flow.edges.now flow.steps.now flow.set.loans.now (inside flow) c.loop-word.word c.loop-word.sweep.rows (omega (arith, c.loop-word-test.false, c.div_ceil-word-end.ensures)) c.loop-word.invariant.walked p l in
    let walked = walks_is_walked flow.edges.now flow.steps.now flow.universals (holds flow.values.now) flow.set.loans.now flow.within l p in
    (λ h. walked.0 (walks.0 h), λ h. walks.1 (walked.1 h))
