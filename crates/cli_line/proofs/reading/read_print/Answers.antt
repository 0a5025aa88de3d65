use Rattle.cli_line.proofs.Parts.{print_is, print_without_file}
use Rattle.cli_line.proofs.reading.read_print.Goals as goal

pub returns-in_default : goal.returns-in_default
returns-in_default c = print_without_file _ c.in_default.ensures

pub returns : goal.returns
returns c = print_is _ _ _ _ _ c.in-Some.ensures c.in_ok-file.ensures.ok c.is_set-positions.ensures c.new.ensures
