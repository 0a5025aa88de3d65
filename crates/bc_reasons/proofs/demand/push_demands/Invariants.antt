use Rattle.std.proofs.Common.{◌≡◌, ◌++◌, drop}
use Rattle.bc_reasons.specs.Demands.{demands_by}
use Rattle.bc_reasons.proofs.demand.push_demands.Given as goal

abbrev pub invariant-loop-pair : goal.invariant-loop-pair
invariant-loop-pair l =
    l.demands.items ++ demands_by l.universals l.reason (drop l.pair-index l.pairs) ≡ l.initial.demands.items ++ demands_by l.universals l.reason l.pairs
