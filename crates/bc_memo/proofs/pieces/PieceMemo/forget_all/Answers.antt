use Rattle.std.proofs.Common.{sym, subst}
use Rattle.bc_prov.specs.Pieces.{PieceView}
use Rattle.bc_memo.specs.Places.{PieceRows, AreOrdered}
use Rattle.bc_memo.proofs.Places.{no_order}
use Rattle.bc_memo.proofs.pieces.PieceMemo.forget_all.Goals as goal

pub invariant_of-self : goal.invariant_of-self
invariant_of-self c = subst (λ (rows : PieceRows). AreOrdered rows) (sym c.clear.ensures.items) (no_order PieceView)
