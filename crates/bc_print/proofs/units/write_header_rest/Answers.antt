use Rattle.std.proofs.Common.{◌++◌}
use Rattle.std.proofs.lemmas.Result.{on_ok_weaker}
use Rattle.bc_syntax.specs.Spelling as spell
use Rattle.bc_print.proofs.Printings.{writes_both}
use Rattle.bc_print.proofs.units.write_header_rest.Goals as goal

pub returns : goal.returns
returns g c =
    let signature = c.args.header.now.signature in
    let names = spell.angled spell.region_name signature.regions in
    let clauses = spell.clauses signature.regions signature.clauses in
    let captures = spell.captures c.args.header.now in
    let rest = spell.function_ty signature in
    on_ok_weaker c.write_function_ty.result
    (λ done. writes_both _ _ _ names (clauses ++ (captures ++ rest)) (rw c.as_slice-regions.ensures at c.in_ok-write_angled.ensures)
    (writes_both _ _ _ clauses (captures ++ rest) (rw (c.as_slice-regions.ensures, c.as_slice-clauses.ensures) at c.in_ok-write_clauses.ensures) (writes_both _ _ _ captures rest c.in_ok-write_captures.ensures done)))
    c.write_function_ty.ensures
