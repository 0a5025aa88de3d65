use Rattle.bc_cons.proofs.body.differing_of_body.Goals as goal

pub returns : goal.returns
returns c = rw (c.deref.ensures.value, c.in_ok-pairs.ensures) at c.differing.ensures
