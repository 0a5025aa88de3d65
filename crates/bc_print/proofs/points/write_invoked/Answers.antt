use Rattle.std.proofs.Common.{◌++◌}
use Rattle.std.proofs.lemmas.Result.{on_ok_weaker}
use Rattle.bc_syntax.specs.Spelling as spell
use Rattle.bc_print.proofs.Printings.{writes_both}
use Rattle.bc_print.proofs.points.write_invoked.Goals as goal

pub returns : goal.returns
returns g c =
    let i = c.args.invocation.now in
    let closure = spell.place i.closure in
    let regions = spell.angled (spell.region c.args.regions.now) i.regions in
    let operands = spell.operands i.operands in
    let label = spell.label i.target in
    on_ok_weaker c.write_label.result
    (λ done. writes_both _ _ _ closure (regions ++ (operands ++ label)) c.in_ok-write_place.ensures
    (writes_both _ _ _ regions (operands ++ label) (rw c.as_slice.ensures at c.in_ok-write_angled.ensures) (writes_both _ _ _ operands label (rw c.as_slice-2.ensures at c.in_ok-write_operands.ensures) done)))
    c.write_label.ensures
