use Rattle.std.proofs.Common.{◌≡◌, ◌++◌, drop, map}
use Rattle.bc_shapes.specs.Replaced.{replaced_region}
use Rattle.bc_shapes.proofs.replaced.push_replaced_regions.Given as goal

abbrev pub invariant-loop-region : goal.invariant-loop-region
invariant-loop-region l =
    l.regions ++ map (replaced_region l.arguments) (drop l.region-index l.more)
    ≡ l.initial.regions ++ map (replaced_region l.arguments) l.more
