use Rattle.std.proofs.Common.{◌++◌}
use Rattle.bc_syntax.specs.declared.symbol.Symbol.TheVariants as s
use Rattle.std.proofs.lemmas.Result.{on_ok_weaker}
use Rattle.bc_syntax.specs.Spelling as spell
use Rattle.bc_print.proofs.Printings.{writes_both}
use Rattle.bc_print.proofs.points.write_invocation.Goals as goal

pub returns : goal.returns
returns g c =
    let place = spell.place c.args.invocation.now.destination in
    let equals = spell.symbol s.Equals in
    let word = spell.symbol s.Invoke in
    let invoked = spell.invoked c.args.regions.now c.args.invocation.now in
    on_ok_weaker c.write_invoked.result
    (λ done. writes_both _ _ _ place (equals ++ (word ++ invoked)) c.in_ok-write_place.ensures (writes_both _ _ _ equals (word ++ invoked) c.in_ok-write_symbol.ensures (writes_both _ _ _ word invoked c.in_ok-write_symbol-2.ensures done)))
    c.write_invoked.ensures
