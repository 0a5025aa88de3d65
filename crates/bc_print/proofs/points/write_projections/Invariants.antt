use Rattle.std.proofs.Common.{take}
use Rattle.std.specs.List.{flat_map}
use Rattle.bc_print.specs.Printing.{Writes}
use Rattle.bc_syntax.specs.Spelling as spell
use Rattle.bc_print.proofs.points.write_projections.Given as goal

abbrev pub invariant-loop-projection : goal.invariant-loop-projection
invariant-loop-projection g l =
    Writes (g.W.Write.contents l.initial.out) (g.W.Write.contents l.out)
    (flat_map spell.step (take l.projection-index l.projections))
