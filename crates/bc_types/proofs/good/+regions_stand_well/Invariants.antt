use Rattle.std.proofs.Common.{length}
use Rattle.bc_types.proofs.good.+regions_stand_well.Given as goal

abbrev pub decreases-regions_stand_well : goal.decreases-regions_stand_well
decreases-regions_stand_well l = length l.references.now
