use Rattle.bc_loans.specs.Inside.{IsWritten}
use Rattle.bc_loans.proofs.insides.write_words.Given as goal

abbrev pub invariant-loop-k : goal.invariant-loop-k
invariant-loop-k l = IsWritten l.first l.k l.block l.initial.words l.words
