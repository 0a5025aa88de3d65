use Rattle.std.proofs.Common.{sym, subst}
use Rattle.bc_prov.specs.Pieces.{PieceView}
use Rattle.bc_memo.specs.Places.{PieceRows, AreOrdered}
use Rattle.bc_memo.proofs.Places.{no_order}
use Rattle.bc_memo.proofs.pieces.PieceMemo.new.Goals as goal

pub invariant_of-result : goal.invariant_of-result
invariant_of-result c = subst (λ (rows : PieceRows). AreOrdered rows) (sym c.in_ok-with_capacity.ensures.items) (no_order PieceView)
