use Rattle.bc_cons.specs.Facts.{ArePairsWithin}
use Rattle.test_solvers.proofs.chains.in_a_row.Given as goal

abbrev pub invariant-loop-next : goal.invariant-loop-next
invariant-loop-next l = ArePairsWithin l.regions l.found.items
