use Rattle.std.proofs.Common.{Result, Ok, Err, subst}
use Rattle.std.specs.Prelude.{IfOk}
use Rattle.bc_text.specs.declared.fault.ReadFault.{ReadFault}
use Rattle.bc_syntax.specs.declared.syntax.Body.{Body}
use Rattle.std.proofs.Common.{List, ℕ}
use Rattle.bc_text.specs.Reading.{read, Answers}
use Rattle.bc_text.specs.Spells.{Spells}
use Rattle.bc_syntax.specs.Fits.{Fits}
use Rattle.bc_text.proofs.UnitLaws.{read_found, read_only}
use Rattle.bc_text.proofs.reader.read_unit.Goals as goal

is_found : (bytes : List ℕ) (result : Result Body ReadFault) → Answers result (read bytes) → IfOk result (λ u. Spells bytes u × Fits u)
is_found bytes (Ok u) e = read_found bytes u e
is_found bytes (Err f) e = tt

pub returns-clause-found : goal.returns-clause-found
returns-clause-found c = is_found c.args.bytes.now c.read_whole.result c.read_whole.ensures.exact

pub returns-clause-only : goal.returns-clause-only
returns-clause-only c = λ u spells fits. subst (Answers c.read_whole.result) (read_only c.args.bytes.now u spells fits) c.read_whole.ensures.exact
