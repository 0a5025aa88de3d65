use Rattle.bc_points.specs.Regions.{region_number}
use Rattle.bc_cons.specs.Starts.{goes_to_variable}
use Rattle.bc_cons.proofs.Growing.{grown-each}
use Rattle.bc_cons.proofs.starts.+add_to_regions.Goals as goal

pub add_to_region-requires-clause-region : goal.add_to_region-requires-clause-region
add_to_region-requires-clause-region t c = c.requires.regions 0 _ c.in-len1-up.len_at_least

pub returns-in-len1-up : goal.returns-in-len1-up
returns-in-len1-up t c =
    grown-each (region_number c.args.universals) (goes_to_variable c.args.universals c.args.points c.args.live_points.now) c.args.regions.now _ c.in-len1-up.len_at_least c.add_to_region.ensures c.add_to_regions.ensures
