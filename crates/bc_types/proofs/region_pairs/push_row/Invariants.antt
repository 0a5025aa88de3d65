use Rattle.std.proofs.Common.{◌≡◌, ◌++◌, map}
use Rattle.std.specs.List.{flat_map, range_with_len}
use Rattle.bc_flow.specs.Flow.{holds}
use Rattle.bc_types.specs.WellFormed.{pair_where, replaced_pair}
use Rattle.bc_types.proofs.region_pairs.push_row.Given as goal

abbrev pub invariant-loop-shorter : goal.invariant-loop-shorter
invariant-loop-shorter l =
    l.constraints.items
    ≡ l.initial.constraints.items ++ flat_map (λ shorter. map (replaced_pair l.arguments) (pair_where (holds l.bits) l.longer shorter)) (range_with_len 0 l.shorter)
