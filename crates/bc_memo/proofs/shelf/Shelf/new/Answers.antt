use Rattle.std.proofs.Common.{sym, subst}
use Rattle.bc_memo.specs.Places.{Places, AreKept}
use Rattle.bc_memo.proofs.Marking.{kept_none}
use Rattle.bc_memo.proofs.shelf.Shelf.new.Goals as goal

pub invariant_of-result : goal.invariant_of-result
invariant_of-result c = subst (λ (ps : Places). AreKept ps) (sym c.in_ok-rows.ensures.items) kept_none
