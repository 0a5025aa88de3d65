use Rattle.std.proofs.Common.{◌++◌}
use Rattle.bc_syntax.specs.declared.symbol.Symbol.TheVariants as s
use Rattle.std.proofs.lemmas.Result.{on_ok_weaker}
use Rattle.bc_syntax.specs.Spelling as spell
use Rattle.bc_print.proofs.Printings.{writes_both}
use Rattle.bc_print.proofs.units.write_bracketed.Goals as goal

pub returns : goal.returns
returns g c =
    let types = spell.commas (spell.ty c.args.regions.now) c.args.captures.now in
    let closing = spell.symbol s.CloseBracket in
    on_ok_weaker c.write_symbol-2.result (λ done. writes_both _ _ _ (spell.symbol s.OpenBracket) (types ++ closing) c.in_ok-write_symbol.ensures (writes_both _ _ _ types closing c.in_ok-write_commas.ensures done)) c.write_symbol-2.ensures
