use Rattle.std.proofs.Common.{map}
use Rattle.cli_file.specs.Parts.{sections_of}
use Rattle.cli_file.specs.Left.{left}
use Rattle.cli_file.specs.Changes.{Makes, seen}
use Rattle.cli_file.proofs.Reading.{HasRead}
use Rattle.cli_file.proofs.file.read_changes.Given as goal

abbrev pub invariant-loop-section : goal.invariant-loop-section
invariant-loop-section l = HasRead Makes (sections_of l.file) (left l.section-iterator) (map seen l.changes.items)
