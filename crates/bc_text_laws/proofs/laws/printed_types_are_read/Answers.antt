use Rattle.bc_print.specs.Printing.{printed}
use Rattle.bc_syntax.specs.Spelling as spell
use Rattle.bc_text_laws.proofs.Printed.{printed_tokens}
use Rattle.bc_text_laws.proofs.Whole.{types_are_whole}
use Rattle.bc_text.proofs.DeclarationLaws.{types_only}
use Rattle.bc_text_laws.proofs.laws.printed_types_are_read.Goals as goal

pub returns-clause-spelled : goal.returns-clause-spelled
returns-clause-spelled c = λ ds fit short. (short, printed_tokens (spell.types ds) (types_are_whole ds fit))

pub returns-clause-read : goal.returns-clause-read
returns-clause-read c = λ ds fit short. types_only (printed (spell.types ds)) ds (short, printed_tokens (spell.types ds) (types_are_whole ds fit)) fit
