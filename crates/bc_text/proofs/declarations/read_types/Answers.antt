use Rattle.std.proofs.Common.{Result, Ok, Err, subst, List, ℕ}
use Rattle.std.specs.Prelude.{IfOk}
use Rattle.bc_text.specs.declared.fault.ReadFault.{ReadFault}
use Rattle.bc_syntax.specs.declared.syntax.Declaration.{Declaration}
use Rattle.bc_syntax.specs.Fits.{TypesFit}
use Rattle.bc_text.specs.Reading.{read_types, Answers}
use Rattle.bc_text.specs.Spells.{SpellsTypes}
use Rattle.bc_text.proofs.DeclarationLaws.{types_found, types_only}
use Rattle.bc_text.proofs.declarations.read_types.Goals as goal

is_found : (bytes : List ℕ) (result : Result (List Declaration) ReadFault) → Answers result (read_types bytes) → IfOk result (λ ds. SpellsTypes bytes ds × TypesFit ds)
is_found bytes (Ok ds) e = types_found bytes ds e
is_found bytes (Err f) e = tt

pub returns-clause-found : goal.returns-clause-found
returns-clause-found c = is_found c.args.bytes.now c.read_whole_types.result c.read_whole_types.ensures.exact

pub returns-clause-only : goal.returns-clause-only
returns-clause-only c = λ ds spells fits. subst (Answers c.read_whole_types.result) (types_only c.args.bytes.now ds spells fits) c.read_whole_types.ensures.exact
