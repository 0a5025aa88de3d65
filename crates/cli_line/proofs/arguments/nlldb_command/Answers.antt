use Rattle.cli_line.specs.Commands.{nlldb}
use Rattle.cli_line.proofs.arguments.nlldb_command.Goals as goal

pub returns : goal.returns
unfolding nlldb
returns c =
    let one = c.in_ok-program.ensures _ _ c.program.ensures c.check_command.ensures in
    let two = c.in_ok-program-2.ensures _ _ one c.run_command.ensures in
    let three = c.in_ok-program-3.ensures _ _ two c.serve_command.ensures in
    c.with_command-4.ensures _ _ three c.print_command.ensures
