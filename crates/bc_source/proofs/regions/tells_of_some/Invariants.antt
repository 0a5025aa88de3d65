use Rattle.std.proofs.Common.{◌≡◌}
use Rattle.bc_source.specs.Regions.{tells_of_some}
use Rattle.bc_source.proofs.regions.tells_of_some.Given as goal

abbrev pub invariant-loop-number : goal.invariant-loop-number
invariant-loop-number l = l.tells ≡ tells_of_some l.error l.number
