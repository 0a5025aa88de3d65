use Rattle.std.proofs.Common.{take}
use Rattle.std.specs.List.{flat_map}
use Rattle.std.specs.Io.KnownBytes.{Appends}
use Rattle.bc_report.specs.Report.{error_lines}
use Rattle.bc_report.proofs.print.write_body.Given as goal

abbrev pub invariant-loop-error : goal.invariant-loop-error
invariant-loop-error g l =
    Appends (g.W.Write.contents l.initial.out) (g.W.Write.contents l.out)
    (flat_map error_lines (take l.error-index l.errors))
