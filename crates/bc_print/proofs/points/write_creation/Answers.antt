use Rattle.std.proofs.lemmas.Result.{on_ok_weaker}
use Rattle.bc_syntax.specs.Spelling as spell
use Rattle.bc_print.proofs.Printings.{writes_both}
use Rattle.bc_print.proofs.points.write_creation.Goals as goal

pub returns : goal.returns
returns g c =
    on_ok_weaker c.write_operands.result (λ done. writes_both _ _ _ (spell.closure_instance c.args.regions.now c.args.creation.now.closure) (spell.operands c.args.creation.now.operands) c.in_ok-write_closure_instance.ensures done)
    (rw c.as_slice.ensures at c.write_operands.ensures)
