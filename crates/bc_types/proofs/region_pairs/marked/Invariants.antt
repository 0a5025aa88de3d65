use Rattle.std.proofs.Common.{take}
use Rattle.bc_types.specs.RegionPairs.{AreMarked}
use Rattle.bc_types.proofs.region_pairs.marked.Given as goal

abbrev pub invariant-loop-pair : goal.invariant-loop-pair
invariant-loop-pair l = AreMarked l.count (take l.pair-index l.pairs) l.bits
