use Rattle.std.proofs.Common.{map}
use Rattle.cli_file.specs.Parts.{sections_of}
use Rattle.cli_file.specs.Left.{left}
use Rattle.cli_file.specs.Changes.{seen}
use Rattle.cli_print.proofs.Writing.{Writing}
use Rattle.cli_print.proofs.sections.print_sections.Given as goal

abbrev pub invariant-loop-section : goal.invariant-loop-section
invariant-loop-section g l = Writing (sections_of l.file) (left l.section-iterator) (map seen l.changes) (map seen l.rest) (g.O.Write.contents l.initial.out) (g.O.Write.contents l.out)
