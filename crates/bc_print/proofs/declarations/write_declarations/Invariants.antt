use Rattle.std.proofs.Common.{take}
use Rattle.std.specs.List.{flat_map}
use Rattle.bc_print.specs.Printing.{Writes}
use Rattle.bc_syntax.specs.Spelling as spell
use Rattle.bc_print.proofs.declarations.write_declarations.Given as goal

abbrev pub invariant-loop-declaration : goal.invariant-loop-declaration
invariant-loop-declaration g l =
    Writes (g.W.Write.contents l.initial.out) (g.W.Write.contents l.out)
    (flat_map spell.declaration (take l.declaration-index l.declarations))
