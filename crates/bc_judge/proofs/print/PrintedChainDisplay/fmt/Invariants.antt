use Rattle.std.proofs.Common.{take, ◌++◌}
use Rattle.std.specs.Prelude.{codes}
use Rattle.std.specs.Fmt.{HasWritten, IsPlainFormatter}
use Rattle.std.specs.List.{flat_map}
use Rattle.bc_judge.specs.Lines.{next_region}
use Rattle.bc_judge.proofs.print.PrintedChainDisplay.fmt.Given as goal

abbrev pub invariant-loop-region : goal.invariant-loop-region
invariant-loop-region g l =
    IsPlainFormatter l.fn.f → HasWritten g.W.Write.write_str_gives l.fn.f (codes "chain" ++ flat_map next_region (take l.region-index l.region-items)) l.f
