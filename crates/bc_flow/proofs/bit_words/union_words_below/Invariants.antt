use Rattle.std.proofs.Common.{◌≡◌, length}
use Rattle.bc_flow.proofs.Fronts.{AreJoined}
use Rattle.bc_flow.proofs.bit_words.union_words_below.Given as goal

abbrev pub invariant-loop-k : goal.invariant-loop-k
invariant-loop-k l = record {
  count : length l.into ≡ length l.initial.into;
  joined : AreJoined l.into l.initial.into l.from l.k;
}
