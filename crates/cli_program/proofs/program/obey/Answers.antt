use Rattle.std.proofs.Common.{ap}
use Rattle.std.specs.Io.Buffered.{writer_contents}
use Rattle.cli_program.proofs.Stopping.{without_memory}
use Rattle.cli_program.proofs.program.obey.Goals as goal

pub returns-in-Err-clause-ended : goal.returns-in-Err-clause-ended
returns-in-Err-clause-ended g c =
    without_memory _ _ c.args.line.now _ _ _ _ _ c.stop_with.result (ap (writer_contents g.O.Write.contents) c.in-Err.ensures.nothing.0)
    (ap g.E.Write.contents c.in-Err.ensures.nothing.1) c.stop_with.ensures.status c.stop_with.ensures.said
