use Rattle.std.proofs.Common.{◌≡◌, ℕ, ◌<◌, get_or}
use Rattle.std.specs.Prelude.{Option}
use Rattle.bc_names.specs.Names.{NameParts}
use Rattle.bc_memo.specs.Places.{revision_at}
use Rattle.bc_memo.proofs.memo.all_stand.Given as goal

abbrev pub invariant-loop-row : goal.invariant-loop-row
invariant-loop-row l = (k : ℕ) (d : NameParts × Option ℕ) → k < l.row-index → revision_at l.shelf.held (get_or l.used k d).0 ≡ (get_or l.used k d).1
