use Rattle.std.proofs.Common.{◌++◌, ◌∷◌}
use Rattle.std.proofs.lemmas.Result.{on_ok_weaker}
use Rattle.bc_syntax.specs.declared.symbol.Symbol.TheVariants as s
use Rattle.bc_syntax.specs.declared.numbering.Numbering.TheVariants as n
use Rattle.bc_syntax.specs.Token.{Numbered}
use Rattle.bc_syntax.specs.Spelling as spell
use Rattle.bc_print.proofs.Printings.{writes_both, writes_token}
use Rattle.bc_print.proofs.units.write_let.Goals as goal

pub returns : goal.returns
returns g c =
    let ty = spell.ty c.args.regions.now c.args.ty.now in
    let end = spell.symbol s.Semicolon in
    let typed = spell.symbol s.Colon ++ (ty ++ end) in
    let local = Numbered n.Local c.args.number in
    on_ok_weaker c.write_symbol-3.result (λ done. writes_both _ _ _ (spell.symbol s.Let) (local ∷ typed) c.in_ok-write_symbol.ensures (writes_token _ _ _ local typed c.in_ok-write_numbered.ensures (writes_both _ _ _ (spell.symbol s.Colon) (ty ++ end) c.in_ok-write_symbol-2.ensures (writes_both _ _ _ ty end c.in_ok-write_ty.ensures done))))
    c.write_symbol-3.ensures
