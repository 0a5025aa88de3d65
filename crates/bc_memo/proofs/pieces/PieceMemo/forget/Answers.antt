use Rattle.std.proofs.Common.{sym, subst}
use Rattle.std.specs.BTreeMap.{is_at}
use Rattle.bc_names.specs.Names.{name_order}
use Rattle.bc_memo.specs.Places.{PieceRows, AreOrdered}
use Rattle.bc_memo.proofs.Places.{ordered-take}
use Rattle.bc_memo.proofs.pieces.PieceMemo.forget.Goals as goal

pub invariant_of-self : goal.invariant_of-self
invariant_of-self c = subst (λ (rows : PieceRows). AreOrdered rows) (sym c.take.ensures.rows) (ordered-take (is_at (name_order c.args.name.now)) c.self.inside.rows.items c.self.invariant)
