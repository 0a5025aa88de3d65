use Rattle.std.proofs.Common.{◌++◌}
use Rattle.std.proofs.lemmas.Result.{on_ok_weaker}
use Rattle.bc_syntax.specs.declared.symbol.Symbol.TheVariants as s
use Rattle.bc_syntax.specs.Spelling as spell
use Rattle.bc_print.proofs.Printings.{writes_both}
use Rattle.bc_print.proofs.declarations.write_extern_rest.Goals as goal

pub returns : goal.returns
returns g c =
    let d = c.args.declaration.now in
    let end = spell.symbol s.Semicolon in
    on_ok_weaker c.write_symbol.result
    (λ done. writes_both _ _ _ (spell.item_name d.name) (spell.signature d.signature ++ end) c.in_ok-write_item_name.ensures (writes_both _ _ _ (spell.signature d.signature) end c.in_ok-write_signature.ensures done))
    c.write_symbol.ensures
