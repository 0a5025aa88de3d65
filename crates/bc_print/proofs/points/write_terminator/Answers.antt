use Rattle.std.proofs.lemmas.Result.{on_ok_weaker}
use Rattle.bc_syntax.specs.declared.symbol.Symbol.TheVariants as s
use Rattle.bc_syntax.specs.Spelling as spell
use Rattle.bc_print.proofs.Printings.{writes_both}
use Rattle.bc_print.proofs.points.write_terminator.Goals as goal

pub returns-in_ok-write_symbol-in-Goto : goal.returns-in_ok-write_symbol-in-Goto
returns-in_ok-write_symbol-in-Goto g c =
    rw c.in-Goto.is (on_ok_weaker c.write_label.result (writes_both _ _ _ (spell.symbol s.Goto) (spell.label c.in-Goto.label) c.in_ok-write_symbol-in-Goto.ensures) c.write_label.ensures)

pub returns-in_ok-write_symbol-in-If : goal.returns-in_ok-write_symbol-in-If
returns-in_ok-write_symbol-in-If g c =
    rw c.in-If.is (on_ok_weaker c.write_condition.result (writes_both _ _ _ (spell.symbol s.If) (spell.condition c.in-If.condition) c.in_ok-write_symbol-in-If.ensures) c.write_condition.ensures)
