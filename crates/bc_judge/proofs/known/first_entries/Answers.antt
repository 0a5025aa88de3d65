use Rattle.std.proofs.Common.{[]}
use Rattle.bc_judge.specs.Known.{entries_of}
use Rattle.bc_flow.proofs.Ranges.{range-turn}
use Rattle.bc_judge.proofs.known.first_entries.Goals as goal

pub loop-region-preserved : goal.loop-region-preserved
loop-region-preserved c =
    range-turn entries_of [] c.loop-region.entries.items _ c.loop-region.region c.in_ok-push_entries.ensures c.loop-region.invariant
