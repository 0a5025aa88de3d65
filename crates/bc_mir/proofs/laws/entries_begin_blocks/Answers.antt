use Rattle.bc_mir.proofs.Entries.{entered}
use Rattle.bc_mir.proofs.laws.entries_begin_blocks.Goals as goal

pub returns : goal.returns
returns c = λ types children body label below. entered label body.blocks below
