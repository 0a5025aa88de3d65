use Rattle.std.proofs.Common.{◌++◌, take, codes}
use Rattle.std.specs.List.{flat_map}
use Rattle.std.specs.Io.KnownBytes.{Appends}
use Rattle.bc_judge.specs.Lines.{next_region}
use Rattle.bc_report.proofs.print.write_chain.Given as goal

abbrev pub invariant-loop-region : goal.invariant-loop-region
invariant-loop-region g l =
    Appends (g.W.Write.contents l.fn.out) (g.W.Write.contents l.out)
    (codes "    chain" ++ flat_map next_region (take l.region-index l.regions))
