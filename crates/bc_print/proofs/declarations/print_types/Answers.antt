use Rattle.std.specs.Prelude.{codes}
use Rattle.std.proofs.KnownBytes.{Appends-trans}
use Rattle.std.proofs.lemmas.Result.{on_ok_weaker}
use Rattle.bc_syntax.specs.Spelling as spell
use Rattle.bc_print.specs.Printing.{texts}
use Rattle.bc_print.proofs.declarations.print_types.Goals as goal

pub returns : goal.returns
returns g c =
    on_ok_weaker c.write_bytes.result
    (Appends-trans _ _ _ (texts (spell.types c.args.types.now)) (codes "\n") (rw c.declarations.ensures.value at c.in_ok-write_all_declarations.ensures))
    c.write_bytes.ensures
