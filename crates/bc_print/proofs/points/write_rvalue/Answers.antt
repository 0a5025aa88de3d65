use Rattle.std.proofs.lemmas.Result.{on_ok_weaker}
use Rattle.bc_syntax.specs.declared.symbol.Symbol.TheVariants as s
use Rattle.bc_syntax.specs.Spelling as spell
use Rattle.bc_print.proofs.Printings.{writes_both}
use Rattle.bc_print.proofs.points.write_rvalue.Goals as goal

pub returns-in_ok-write_symbol-in-Borrow : goal.returns-in_ok-write_symbol-in-Borrow
returns-in_ok-write_symbol-in-Borrow g c =
    rw c.in-Borrow.is (on_ok_weaker c.write_borrow.result (writes_both _ _ _ (spell.symbol s.Ampersand) (spell.borrow c.args.regions.now c.in-Borrow.borrow) c.in_ok-write_symbol-in-Borrow.ensures) c.write_borrow.ensures)

pub returns-in_ok-write_symbol-in-Calc : goal.returns-in_ok-write_symbol-in-Calc
returns-in_ok-write_symbol-in-Calc g c =
    rw c.in-Calc.is (on_ok_weaker c.write_operands.result (writes_both _ _ _ (spell.symbol s.Calc) (spell.operands c.in-Calc.operands) c.in_ok-write_symbol-in-Calc.ensures) (rw c.as_slice.ensures at c.write_operands.ensures))
