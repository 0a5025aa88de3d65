use Rattle.std.proofs.Common.{take}
use Rattle.std.specs.List.{flat_map}
use Rattle.bc_print.specs.Printing.{Writes}
use Rattle.bc_syntax.specs.Spelling as spell
use Rattle.bc_print.proofs.names.write_references.Given as goal

abbrev pub invariant-loop-reference : goal.invariant-loop-reference
invariant-loop-reference g l =
    Writes (g.W.Write.contents l.initial.out) (g.W.Write.contents l.out)
    (flat_map (spell.behind l.regions) (take l.reference-index l.references))
