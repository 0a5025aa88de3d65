use Rattle.std.proofs.Common.{◌≡◌, ◌+◌, ◌≤◌, max, drop}
use Rattle.bc_cons.specs.Bounds.{regions_bound}
use Rattle.bc_cons.proofs.bounds.regions_bound.Given as goal

abbrev pub invariant-loop-region : goal.invariant-loop-region
invariant-loop-region l = record {
  bound : regions_bound l.universals l.bound (drop l.region-index l.regions) ≡ regions_bound l.universals l.least l.regions;
  within : l.bound ≤ max l.least (l.universals + 65536);
}
