use Rattle.bc_print.specs.Printing.{printed}
use Rattle.bc_syntax.specs.Spelling as spell
use Rattle.bc_text_laws.proofs.Printed.{printed_tokens}
use Rattle.bc_text_laws.proofs.Whole.{unit_is_whole}
use Rattle.bc_text.proofs.UnitLaws.{read_only}
use Rattle.bc_text_laws.proofs.laws.printed_units_are_read.Goals as goal

pub returns : goal.returns
returns c = record {
  spelled = λ u fits short. (short, printed_tokens (spell.unit u) (unit_is_whole u fits));
  read = λ u fits short. read_only (printed (spell.unit u)) u (short, printed_tokens (spell.unit u) (unit_is_whole u fits)) fits;
}
