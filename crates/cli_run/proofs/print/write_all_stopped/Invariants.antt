use Rattle.std.proofs.Common.{◌≡◌, take}
use Rattle.std.specs.Io.KnownBytes.{Appends}
use Rattle.cli_run.specs.Print.{stopped_lines}
use Rattle.cli_run.proofs.print.write_all_stopped.Given as goal

abbrev pub invariant-loop-end : goal.invariant-loop-end
invariant-loop-end g l =
    (l.session ≡ l.end-index)
    × Appends (g.E.Write.contents l.initial.err) (g.E.Write.contents l.err) (stopped_lines 0 (take l.end-index l.ends))
