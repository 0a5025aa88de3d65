use Rattle.std.proofs.Common.{take}
use Rattle.bc_print.specs.Printing.{Writes}
use Rattle.bc_syntax.specs.Spelling as spell
use Rattle.bc_print.proofs.units.write_lets.Given as goal

abbrev pub invariant-loop-index : goal.invariant-loop-index
invariant-loop-index g l =
    Writes (g.W.Write.contents l.initial.out) (g.W.Write.contents l.out)
    (spell.lets l.regions l.first (take l.index l.lets))
