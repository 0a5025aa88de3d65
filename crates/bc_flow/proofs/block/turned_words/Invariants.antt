use Rattle.bc_flow.proofs.Turned.{IsTurned}
use Rattle.bc_flow.proofs.block.turned_words.Given as goal

abbrev pub invariant-loop-left : goal.invariant-loop-left
invariant-loop-left l = IsTurned l.left l.behind l.words l.block

abbrev pub decreases-loop-left : goal.decreases-loop-left
decreases-loop-left l = l.left
