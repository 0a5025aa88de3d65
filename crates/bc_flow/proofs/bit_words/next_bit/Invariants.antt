use Rattle.std.proofs.Common.{◌-◌, length}
use Rattle.bc_flow.proofs.NextBit.{IsScanned}
use Rattle.bc_flow.proofs.bit_words.next_bit.Given as goal

abbrev pub invariant-loop-word : goal.invariant-loop-word
invariant-loop-word l = IsScanned l.words l.from l.index l.word

abbrev pub decreases-loop-word : goal.decreases-loop-word
decreases-loop-word l = length l.words - l.index
