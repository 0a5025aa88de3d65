use Rattle.bc_cons.specs.Facts.{ArePairsWithin}
use Rattle.trial_chains.proofs.graphs.pairs.Given as goal

abbrev pub invariant-loop-turn : goal.invariant-loop-turn
invariant-loop-turn l = ArePairsWithin 7 l.pairs.items
