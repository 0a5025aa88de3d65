use Rattle.bc_prov.proofs.pieces.Piece.is_from.Goals as goal

pub returns-clause-right : goal.returns-clause-right
returns-clause-right c = rw (← c.self.view_is) c.self.invariant
