use Rattle.std.proofs.Common.{◌≡◌, ◌++◌, drop, filter}
use Rattle.bc_cons.specs.Constraints.{differ}
use Rattle.bc_cons.proofs.body.differing.Given as goal

abbrev pub invariant-loop-pair : goal.invariant-loop-pair
invariant-loop-pair l = l.kept.items ++ filter differ (drop l.pair-index l.pairs) ≡ filter differ l.pairs
