use Rattle.bc_types.proofs.Marking.{marked-pairs}
use Rattle.bc_types.proofs.region_pairs.RegionPairs.among.Goals as goal

pub returns : goal.returns
returns c = marked-pairs c.args.count c.args.pairs.now c.in_ok-bits.bits c.in_ok-bits.ensures
