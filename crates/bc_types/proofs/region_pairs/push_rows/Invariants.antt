use Rattle.std.proofs.Common.{◌≡◌, ◌++◌, map, length}
use Rattle.std.specs.List.{flat_map, range_with_len}
use Rattle.bc_flow.specs.Flow.{holds}
use Rattle.bc_types.specs.WellFormed.{replaced_pair, row_where}
use Rattle.bc_types.proofs.region_pairs.push_rows.Given as goal

abbrev pub invariant-loop-longer : goal.invariant-loop-longer
invariant-loop-longer l =
    l.constraints.items
    ≡ l.initial.constraints.items ++ flat_map (λ longer. map (replaced_pair l.arguments) (row_where (holds l.bits) (length l.bits) longer)) (range_with_len 0 l.longer)
