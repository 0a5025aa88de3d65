use Rattle.std.proofs.Common.{◌++◌}
use Rattle.std.proofs.lemmas.Result.{on_ok_weaker}
use Rattle.bc_syntax.specs.declared.symbol.Symbol.TheVariants as s
use Rattle.bc_syntax.specs.Spelling as spell
use Rattle.bc_print.proofs.Printings.{writes_both}
use Rattle.bc_print.proofs.units.write_function_ty.Goals as goal

pub returns : goal.returns
returns g c =
    let regions = c.args.signature.now.regions in
    let parameters = spell.parameters regions c.args.signature.now.parameters in
    let arrow = spell.symbol s.Arrow in
    let result = spell.ty regions c.args.signature.now.result in
    on_ok_weaker c.write_ty.result
    (λ done. writes_both _ _ _ parameters (arrow ++ result) (rw (c.as_slice-regions.ensures, c.as_slice.ensures) at c.in_ok-write_parameters.ensures) (writes_both _ _ _ arrow result c.in_ok-write_symbol.ensures done))
    (rw c.as_slice-regions.ensures at c.write_ty.ensures)
