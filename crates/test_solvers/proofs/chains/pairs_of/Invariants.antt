use Rattle.bc_cons.specs.Facts.{ArePairsWithin}
use Rattle.test_solvers.proofs.chains.pairs_of.Given as goal

abbrev pub invariant-loop-pair : goal.invariant-loop-pair
invariant-loop-pair l = ArePairsWithin 8 l.found.items
