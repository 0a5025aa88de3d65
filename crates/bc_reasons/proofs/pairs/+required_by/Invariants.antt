use Rattle.std.proofs.Common.{length}
use Rattle.bc_reasons.proofs.pairs.+required_by.Given as goal

abbrev pub decreases-required_by : goal.decreases-required_by
decreases-required_by l = length l.kids.now
