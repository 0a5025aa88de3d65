use Rattle.std.proofs.Common.{◌≡◌, ◌++◌, map, drop}
use Rattle.bc_types.specs.WellFormed.{replaced_pair}
use Rattle.bc_types.proofs.well_formed.push_replaced_pairs.Given as goal

abbrev pub invariant-loop-pair : goal.invariant-loop-pair
invariant-loop-pair l =
    l.constraints.items ++ map (replaced_pair l.arguments) (drop l.pair-index l.pairs)
    ≡ l.initial.constraints.items ++ map (replaced_pair l.arguments) l.pairs
