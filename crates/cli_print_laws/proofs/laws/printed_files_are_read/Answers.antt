use Rattle.cli_print_laws.proofs.Again.{read_again, printed_alike}
use Rattle.cli_print_laws.proofs.laws.printed_files_are_read.Goals as goal

pub returns-clause-again : goal.returns-clause-again
returns-clause-again c = read_again c.printed_units_are_read.ensures.read c.printed_types_are_read.ensures.read

pub returns-clause-alike : goal.returns-clause-alike
returns-clause-alike c = printed_alike
