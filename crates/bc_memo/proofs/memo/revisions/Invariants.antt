use Rattle.std.proofs.Common.{◌≡◌, take}
use Rattle.bc_memo.specs.Memos.{recorded}
use Rattle.bc_memo.proofs.memo.revisions.Given as goal

abbrev pub invariant-loop-name : goal.invariant-loop-name
invariant-loop-name l = l.used.items ≡ recorded l.shelf.held (take l.name-index l.names)
