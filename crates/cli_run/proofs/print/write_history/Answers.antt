use Rattle.cli_file.specs.declared.stop.Stop.TheVariants.{NoMemory}
use Rattle.cli_run.proofs.Printing.{more_printed, part_printed, passed_on}
use Rattle.cli_run.proofs.print.write_history.Goals as goal

pub returns-in_err-write_entry-clause-no_memory : goal.returns-in_err-write_entry-clause-no_memory
returns-in_err-write_entry-clause-no_memory g c = λ is.
    (let refused = c.in_err-write_entry.ensures.no_memory (passed_on c.from_residual.result c.in_err-write_entry.field-0.0 NoMemory c.from_residual.ensures.1 is) in
    (refused.0, part_printed c.args.json c.args.entries.now c.loop-entry.entry-index _ _ _ c.loop-entry-test.true refused.0 c.loop-entry.invariant refused.1))

pub loop-entry-preserved : goal.loop-entry-preserved
loop-entry-preserved g c = more_printed c.args.json _ _ _ c.args.entries.now c.loop-entry.entry-index c.entry-item.result c.loop-entry-test.true c.entry-item.is c.loop-entry.invariant c.in_ok-write_entry.ensures.written
