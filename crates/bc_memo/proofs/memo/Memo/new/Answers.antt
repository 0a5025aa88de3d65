use Rattle.std.proofs.Common.{List, sym, subst}
use Rattle.bc_names.specs.Names.{NameParts}
use Rattle.bc_memo.specs.declared.memo.Remembered.{Remembered}
use Rattle.bc_memo.specs.Places.{AreOrdered}
use Rattle.bc_memo.proofs.Places.{no_order}
use Rattle.bc_memo.proofs.memo.Memo.new.Goals as goal

pub invariant_of-result : goal.invariant_of-result
invariant_of-result c = subst (λ (l : List (NameParts × Remembered)). AreOrdered l) (sym c.new.ensures.items) (no_order Remembered)
