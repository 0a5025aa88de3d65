use Rattle.cli_line.proofs.Telling.{program_told}
use Rattle.cli_line.proofs.arguments.program.Goals as goal

pub returns : goal.returns
returns c =
    program_told c.new.result c.no_binary_name.result c.subcommand_required.result c.disable_help_subcommand.result c.version.result _
    (c.new.ensures.app, c.new.ensures.local) c.no_binary_name.ensures c.subcommand_required.ensures c.disable_help_subcommand.ensures c.version.ensures
