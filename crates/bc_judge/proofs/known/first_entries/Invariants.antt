use Rattle.std.proofs.Common.{◌≡◌}
use Rattle.std.specs.List.{flat_map, range_with_len}
use Rattle.bc_judge.specs.Known.{entries_of}
use Rattle.bc_judge.proofs.known.first_entries.Given as goal

abbrev pub invariant-loop-region : goal.invariant-loop-region
invariant-loop-region l = l.entries.items ≡ flat_map entries_of (range_with_len 0 l.region)
