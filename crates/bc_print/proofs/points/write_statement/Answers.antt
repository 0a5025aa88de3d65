use Rattle.std.proofs.Common.{[], ◌∷◌}
use Rattle.bc_syntax.specs.Token.{Numbered}
use Rattle.bc_syntax.specs.declared.numbering.Numbering.TheVariants as n
use Rattle.std.proofs.lemmas.Result.{on_ok_weaker}
use Rattle.bc_syntax.specs.declared.symbol.Symbol.TheVariants as s
use Rattle.bc_syntax.specs.Spelling as spell
use Rattle.bc_print.proofs.Printings.{writes_both}
use Rattle.bc_print.proofs.points.write_statement.Goals as goal

pub returns-in_ok-write_symbol-in-Dead : goal.returns-in_ok-write_symbol-in-Dead
returns-in_ok-write_symbol-in-Dead g c =
    rw c.in-Dead.is (on_ok_weaker c.write_numbered.result (writes_both _ _ _ (spell.symbol s.Dead) (Numbered n.Local c.in-Dead.local ∷ []) c.in_ok-write_symbol-in-Dead.ensures) (rw c.from.ensures at c.write_numbered.ensures))

pub returns-in_ok-write_symbol-in-Drop : goal.returns-in_ok-write_symbol-in-Drop
returns-in_ok-write_symbol-in-Drop g c =
    rw c.in-Drop.is (on_ok_weaker c.write_place.result (writes_both _ _ _ (spell.symbol s.Drop) (spell.place c.in-Drop.place) c.in_ok-write_symbol-in-Drop.ensures) c.write_place.ensures)
