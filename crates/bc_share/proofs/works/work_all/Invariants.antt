use Rattle.bc_share.proofs.Working.{HasWorked}
use Rattle.bc_share.proofs.works.work_all.Given as goal

abbrev pub invariant-loop-one : goal.invariant-loop-one
invariant-loop-one g l = HasWorked l.fn.begun.items l.one-iterator.rest.items l.works.items
