use Rattle.bc_outcomes.proofs.making.piece_over.Goals as goal

pub piece_of-requires-clause-fitted : goal.piece_of-requires-clause-fitted
piece_of-requires-clause-fitted g c = rw (c.in_ok-clone.ensures.cases, c.in_ok-clone-2.ensures.cases) c.requires.fitted

pub returns : goal.returns
returns g c = rw (c.in_ok-clone.ensures.cases, c.in_ok-clone-2.ensures.cases) at c.piece_of.ensures
