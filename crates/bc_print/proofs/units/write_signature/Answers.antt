use Rattle.std.proofs.Common.{◌++◌}
use Rattle.std.proofs.lemmas.Result.{on_ok_weaker}
use Rattle.bc_syntax.specs.Spelling as spell
use Rattle.bc_print.proofs.Printings.{writes_both}
use Rattle.bc_print.proofs.units.write_signature.Goals as goal

pub returns : goal.returns
returns g c =
    let regions = c.args.signature.now.regions in
    let names = spell.angled spell.region_name regions in
    let clauses = spell.clauses regions c.args.signature.now.clauses in
    let rest = spell.function_ty c.args.signature.now in
    on_ok_weaker c.write_function_ty.result
    (λ done. writes_both _ _ _ names (clauses ++ rest) (rw c.as_slice-regions.ensures at c.in_ok-write_angled.ensures)
    (writes_both _ _ _ clauses rest (rw (c.as_slice-regions.ensures, c.as_slice.ensures) at c.in_ok-write_clauses.ensures) done))
    c.write_function_ty.ensures
