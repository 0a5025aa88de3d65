use Rattle.std.specs.Io.Buffered.{writer_contents}
use Rattle.cli_output.specs.Logs.{bytes_of}
use Rattle.cli_output.specs.Tokens.{known}
use Rattle.cli_output.proofs.Logs.{appends}
use Rattle.cli_output.proofs.output.Output.close.Goals as goal

pub returns-clause-printed : goal.returns-clause-printed
returns-clause-printed g c = appends g.J.Sheet.before (writer_contents g.O.Write.contents c.args.self.out) (bytes_of (known c.args.self.keeper).log) (c.args.self.printed c.if-has_failed.false)
