use Rattle.std.proofs.Common.{◌++◌}
use Rattle.bc_syntax.specs.declared.symbol.Symbol.TheVariants as s
use Rattle.std.proofs.lemmas.Result.{on_ok_weaker}
use Rattle.bc_syntax.specs.Spelling as spell
use Rattle.bc_print.proofs.Printings.{writes_both}
use Rattle.bc_print.proofs.points.write_assignment.Goals as goal

pub returns : goal.returns
returns g c =
    on_ok_weaker c.write_rvalue.result (λ done. writes_both _ _ _ (spell.place c.args.assignment.now.target) (spell.symbol s.Equals ++ spell.rvalue c.args.regions.now c.args.assignment.now.value) c.in_ok-write_place.ensures (writes_both _ _ _ (spell.symbol s.Equals) (spell.rvalue c.args.regions.now c.args.assignment.now.value) c.in_ok-write_symbol.ensures done))
    c.write_rvalue.ensures
