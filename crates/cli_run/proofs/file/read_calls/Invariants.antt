use Rattle.cli_file.specs.Parts.{sections_of}
use Rattle.cli_file.specs.Left.{left}
use Rattle.cli_file.proofs.Reading.{HasRead}
use Rattle.cli_run.specs.Calls.{Gives}
use Rattle.cli_run.proofs.file.read_calls.Given as goal

abbrev pub invariant-loop-section : goal.invariant-loop-section
invariant-loop-section l = HasRead (Gives l.sessions) (sections_of l.file) (left l.section-iterator) l.calls.items
