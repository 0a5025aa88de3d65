use Rattle.std.proofs.Common.{map}
use Rattle.cli_file.specs.Changes.{Makes, seen}
use Rattle.cli_file.proofs.Reading.{HasRead}
use Rattle.cli_file.proofs.side.gather.Given as goal

abbrev pub invariant-loop-section : goal.invariant-loop-section
invariant-loop-section l = HasRead Makes l.fn.sections.items l.section-iterator.rest.items (map seen l.changes.items)
