use Rattle.bc_flow.proofs.Fronts.{AreFilled}
use Rattle.bc_flow.proofs.bit_words.fill_below.Given as goal

abbrev pub invariant-loop-k : goal.invariant-loop-k
invariant-loop-k l = AreFilled l.words l.initial.words l.count l.k
