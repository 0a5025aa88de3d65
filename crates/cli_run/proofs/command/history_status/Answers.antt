use Rattle.std.proofs.Common.{arith, take}
use Rattle.cli_run.proofs.Statuses.{greatest-snoc, taken_more}
use Rattle.cli_run.proofs.command.history_status.Goals as goal

pub loop-entry-preserved : goal.loop-entry-preserved
loop-entry-preserved c =
    let entry = c.entry-item.result in
    let snoc = greatest-snoc (take c.loop-entry.entry-index c.args.entries.now) entry in (
      rw (taken_more c.args.entries.now c.loop-entry.entry-index entry c.loop-entry-test.true c.entry-item.is) (omega (arith, snoc, c.max-status.ensures, c.event_status.ensures.value, c.loop-entry.invariant.0)),
      omega (arith, c.max-status.ensures, c.event_status.ensures.range, c.loop-entry.invariant.1),
    )
