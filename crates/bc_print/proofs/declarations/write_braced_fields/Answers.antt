use Rattle.std.proofs.Common.{◌++◌}
use Rattle.std.specs.List.{flat_map}
use Rattle.std.proofs.lemmas.Result.{on_ok_weaker}
use Rattle.bc_syntax.specs.declared.symbol.Symbol.TheVariants as s
use Rattle.bc_syntax.specs.Spelling as spell
use Rattle.bc_print.proofs.Printings.{writes_both}
use Rattle.bc_print.proofs.declarations.write_braced_fields.Goals as goal

pub returns : goal.returns
returns g c =
    let fields = flat_map (spell.field c.args.declaration.now.regions) c.args.declaration.now.fields in
    let closing = spell.symbol s.CloseBrace in
    on_ok_weaker c.write_symbol-2.result
    (λ done. writes_both _ _ _ (spell.symbol s.OpenBrace) (fields ++ closing) c.in_ok-write_symbol.ensures (writes_both _ _ _ fields closing (rw (c.as_slice.ensures, c.as_slice-2.ensures) at c.in_ok-write_fields.ensures) done))
    c.write_symbol-2.ensures
