use Rattle.std.proofs.Common.{◌++◌}
use Rattle.bc_syntax.specs.declared.symbol.Symbol.TheVariants as s
use Rattle.std.proofs.lemmas.Result.{on_ok_weaker}
use Rattle.bc_syntax.specs.Spelling as spell
use Rattle.bc_print.proofs.Printings.{writes_both}
use Rattle.bc_print.proofs.points.write_braced.Goals as goal

pub returns : goal.returns
returns g c =
    on_ok_weaker c.write_symbol-3.result (λ done. writes_both _ _ _ (spell.symbol s.OpenBrace) (spell.points c.args.regions.now c.args.block.now ++ (spell.symbol s.Semicolon ++ spell.symbol s.CloseBrace)) c.in_ok-write_symbol.ensures (writes_both _ _ _ (spell.points c.args.regions.now c.args.block.now) (spell.symbol s.Semicolon ++ spell.symbol s.CloseBrace) c.in_ok-write_points.ensures (writes_both _ _ _ (spell.symbol s.Semicolon) (spell.symbol s.CloseBrace) c.in_ok-write_symbol-2.ensures done)))
    c.write_symbol-3.ensures
