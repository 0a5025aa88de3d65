use Rattle.std.proofs.Common.{take}
use Rattle.std.specs.List.{flat_map}
use Rattle.std.specs.Io.KnownBytes.{Appends}
use Rattle.cli_run.specs.Print.{entry_lines}
use Rattle.cli_run.proofs.print.write_history.Given as goal

abbrev pub invariant-loop-entry : goal.invariant-loop-entry
invariant-loop-entry g l =
    Appends (g.O.Write.contents l.initial.out) (g.O.Write.contents l.out)
    (flat_map (entry_lines l.json) (take l.entry-index l.entries))
