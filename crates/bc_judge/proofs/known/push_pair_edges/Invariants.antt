use Rattle.std.proofs.Common.{◌≡◌, ◌++◌, drop}
use Rattle.std.specs.List.{flat_map}
use Rattle.bc_judge.specs.Known.{pair_edges}
use Rattle.bc_judge.proofs.known.push_pair_edges.Given as goal

abbrev pub invariant-loop-pair : goal.invariant-loop-pair
invariant-loop-pair l =
    l.edges.items ++ flat_map pair_edges (drop l.pair-index l.pairs) ≡ l.initial.edges.items ++ flat_map pair_edges l.pairs
