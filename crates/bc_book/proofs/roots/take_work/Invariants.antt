use Rattle.std.proofs.Common.{vec_len}
use Rattle.bc_book.proofs.roots.take_work.Given as goal

abbrev pub invariant-loop-work : goal.invariant-loop-work
invariant-loop-work l = Unit {0}

abbrev pub decreases-loop-work : goal.decreases-loop-work
decreases-loop-work l = vec_len l.works
