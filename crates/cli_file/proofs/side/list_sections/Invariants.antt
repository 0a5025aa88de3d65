use Rattle.std.proofs.Common.{◌≡◌, ◌++◌}
use Rattle.cli_file.specs.Parts.{sections_of}
use Rattle.cli_file.specs.Left.{left}
use Rattle.cli_file.proofs.side.list_sections.Given as goal

abbrev pub invariant-loop-section : goal.invariant-loop-section
invariant-loop-section l = sections_of l.file ≡ l.sections.items ++ left l.section-iterator
