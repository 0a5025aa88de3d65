use Rattle.std.proofs.Common.{◌≡◌, ◌<◌, ◌++◌, map, get_or}
use Rattle.bc_points.specs.Regions.{region_of_number}
use Rattle.bc_solve.specs.Ways.{way}
use Rattle.bc_solve.proofs.ways.walk.Given as goal

abbrev pub invariant-loop-left : goal.invariant-loop-left
invariant-loop-left l = record {
  here : 0 < l.left → get_or l.lengths l.here 0 ≡ l.left;
  so_far : l.chain.items ++ map (region_of_number l.facts.universals) (way l.steps l.left l.here)
      ≡ map (region_of_number l.facts.universals) (way l.steps (get_or l.lengths l.region 0) l.region);
}

abbrev pub decreases-loop-left : goal.decreases-loop-left
decreases-loop-left l = l.left
