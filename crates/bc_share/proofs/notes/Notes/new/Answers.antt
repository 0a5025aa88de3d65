use Rattle.bc_share.proofs.Noting.{noted_none}
use Rattle.bc_share.proofs.notes.Notes.new.Goals as goal

pub invariant_of-result : goal.invariant_of-result
invariant_of-result c = noted_none _ _ _ c.requires.range c.new.ensures.items c.requires.nothing
