use Rattle.std.proofs.Common.{take}
use Rattle.bc_print.specs.Printing.{Writes}
use Rattle.bc_syntax.specs.Spelling.{behind_commas}
use Rattle.bc_print.proofs.tokens.write_next.Given as goal

abbrev pub invariant-loop-item : goal.invariant-loop-item
invariant-loop-item g l =
    Writes (g.W.Write.contents l.initial.out) (g.W.Write.contents l.out)
    (behind_commas (g.T.Spelled.spelling l.regions) (take l.item-index l.items))
