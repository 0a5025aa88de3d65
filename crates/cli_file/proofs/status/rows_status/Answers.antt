use Rattle.std.proofs.Common.{arith, ap}
use Rattle.cli_file.specs.Statuses.{outcome_status}
use Rattle.cli_file.proofs.Statuses.{rows_status-more}
use Rattle.cli_file.proofs.status.rows_status.Goals as goal

pub loop-row-preserved : goal.loop-row-preserved
loop-row-preserved c =
    let more = rows_status-more c.args.rows.now c.loop-row.row-index c.row-item.result c.loop-row-test.true c.row-item.is in
    let same = ap outcome_status c.get.ensures in (
      omega (arith, more, same, c.max-status.ensures, c.outcome_status.ensures.value, c.loop-row.invariant.0),
      omega (arith, c.max-status.ensures, c.outcome_status.ensures.range, c.loop-row.invariant.1),
    )
