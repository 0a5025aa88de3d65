use Rattle.std.proofs.Common.{◌≡◌, ◌++◌, drop}
use Rattle.bc_types.specs.WellFormed.{each_outlives}
use Rattle.bc_types.proofs.well_formed.push_each_outlives.Given as goal

abbrev pub invariant-loop-region : goal.invariant-loop-region
invariant-loop-region l =
    l.constraints.items ++ each_outlives (drop l.region-index l.regions) l.shorter
    ≡ l.initial.constraints.items ++ each_outlives l.regions l.shorter
