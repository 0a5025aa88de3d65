use Rattle.std.proofs.Common.{length}
use Rattle.bc_types.proofs.good.+arguments_stand_well.Given as goal

abbrev pub decreases-arguments_stand_well : goal.decreases-arguments_stand_well
decreases-arguments_stand_well l = length l.parameters.now
