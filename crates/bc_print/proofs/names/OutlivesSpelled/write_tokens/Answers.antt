use Rattle.std.proofs.Common.{◌++◌}
use Rattle.bc_syntax.specs.declared.symbol.Symbol.TheVariants as s
use Rattle.std.proofs.lemmas.Result.{on_ok_weaker}
use Rattle.bc_syntax.specs.Spelling as spell
use Rattle.bc_print.proofs.Printings.{writes_both}
use Rattle.bc_print.proofs.names.OutlivesSpelled.write_tokens.Goals as goal

pub returns : goal.returns
returns g c =
    on_ok_weaker c.write_universal-2.result (λ done. writes_both _ _ _ (spell.universal c.args.regions.now c.args.self.now.longer) (spell.symbol s.Colon ++ spell.universal c.args.regions.now c.args.self.now.shorter) c.in_ok-write_universal.ensures (writes_both _ _ _ (spell.symbol s.Colon) (spell.universal c.args.regions.now c.args.self.now.shorter) c.in_ok-write_symbol.ensures done))
    c.write_universal-2.ensures
