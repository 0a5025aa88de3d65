use Rattle.std.proofs.Common.{◌++◌}
use Rattle.std.proofs.lemmas.Result.{on_ok_weaker}
use Rattle.bc_syntax.specs.Spelling as spell
use Rattle.bc_print.proofs.Printings.{writes_both}
use Rattle.bc_print.proofs.points.write_called.Goals as goal

pub returns : goal.returns
returns g c =
    on_ok_weaker c.write_label.result (λ done. writes_both _ _ _ (spell.instance c.args.regions.now c.args.call.now.function) (spell.operands c.args.call.now.operands ++ spell.label c.args.call.now.target) c.in_ok-write_instance.ensures (writes_both _ _ _ (spell.operands c.args.call.now.operands) (spell.label c.args.call.now.target) (rw c.as_slice.ensures at c.in_ok-write_operands.ensures) done))
    c.write_label.ensures
