use Rattle.std.specs.Io.Buffered.{writer_buffer, writer_contents}
use Rattle.cli_serve.proofs.command.serve_by.Given as goal

abbrev pub ghosts-serve_on : goal.ghosts-serve_on
ghosts-serve_on g a = record { table = a.opening.table.shared.table_id; before = writer_contents g.O.Write.contents a.out; buffer = writer_buffer a.out }
