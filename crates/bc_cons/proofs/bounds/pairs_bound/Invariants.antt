use Rattle.std.proofs.Common.{◌≡◌, ◌+◌, ◌≤◌, max, drop}
use Rattle.bc_cons.specs.Bounds.{pairs_bound}
use Rattle.bc_cons.proofs.bounds.pairs_bound.Given as goal

abbrev pub invariant-loop-pair : goal.invariant-loop-pair
invariant-loop-pair l = record {
  bound : pairs_bound l.universals l.bound (drop l.pair-index l.pairs) ≡ pairs_bound l.universals l.least l.pairs;
  within : l.bound ≤ max l.least (l.universals + 65536);
}
