use Rattle.bc_flow.specs.Flow.{holds}
use Rattle.bc_loans.proofs.Telling.{AreGathered}
use Rattle.bc_loans.proofs.insides.inside_block.Given as goal

abbrev pub invariant-loop-k : goal.invariant-loop-k
invariant-loop-k l = AreGathered l.flow.universals l.flow.set.loans.now (holds l.flow.values.now) l.word l.run l.k l.block
