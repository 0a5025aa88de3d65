use Rattle.std.proofs.Common.{arith, take, get_or}
use Rattle.std.proofs.lemmas.List.{take_more}
use Rattle.bc_scripts.specs.declared.run.End.TheVariants.{Done}
use Rattle.cli_run.proofs.Statuses.{greatest_end-snoc}
use Rattle.cli_run.proofs.command.ends_status.Goals as goal

pub loop-end-preserved : goal.loop-end-preserved
loop-end-preserved c =
    let snoc = greatest_end-snoc (take c.loop-end.end-index c.args.ends.now) (get_or c.args.ends.now c.loop-end.end-index Done) in (
      rw (take_more c.args.ends.now c.loop-end.end-index Done c.loop-end-test.true) (omega (arith, snoc, c.max-status.ensures, c.end_status.ensures.value, c.loop-end.invariant.0)),
      omega (arith, c.max-status.ensures, c.end_status.ensures.range, c.loop-end.invariant.1),
    )
