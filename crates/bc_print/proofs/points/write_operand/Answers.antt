use Rattle.std.proofs.lemmas.Result.{on_ok_weaker}
use Rattle.bc_syntax.specs.declared.symbol.Symbol.TheVariants as s
use Rattle.bc_syntax.specs.Spelling as spell
use Rattle.bc_print.proofs.Printings.{writes_both}
use Rattle.bc_print.proofs.points.write_operand.Goals as goal

pub returns-in_ok-write_symbol-in-Copy : goal.returns-in_ok-write_symbol-in-Copy
returns-in_ok-write_symbol-in-Copy g c =
    rw c.in-Copy.is (on_ok_weaker c.write_place.result (writes_both _ _ _ (spell.symbol s.Copy) (spell.place c.in-Copy.place) c.in_ok-write_symbol-in-Copy.ensures) c.write_place.ensures)

pub returns-in_ok-write_symbol-in-Move : goal.returns-in_ok-write_symbol-in-Move
returns-in_ok-write_symbol-in-Move g c =
    rw c.in-Move.is (on_ok_weaker c.write_place-in-Move.result (writes_both _ _ _ (spell.symbol s.Move) (spell.place c.in-Move.place) c.in_ok-write_symbol-in-Move.ensures) c.write_place-in-Move.ensures)
