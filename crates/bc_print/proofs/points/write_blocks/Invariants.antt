use Rattle.std.proofs.Common.{take}
use Rattle.bc_print.specs.Printing.{Writes}
use Rattle.bc_syntax.specs.Spelling as spell
use Rattle.bc_print.proofs.points.write_blocks.Given as goal

abbrev pub invariant-loop-number : goal.invariant-loop-number
invariant-loop-number g l =
    Writes (g.W.Write.contents l.initial.out) (g.W.Write.contents l.out)
    (spell.blocks l.regions 0 (take l.number l.blocks))
