use Rattle.bc_cons.specs.Facts.{ArePairsWithin}
use Rattle.bench_solvers.proofs.chains.pairs_of.Given as goal

abbrev pub invariant-loop-turn : goal.invariant-loop-turn
invariant-loop-turn l = record {
  within : ArePairsWithin 1040 l.pairs.items;
}
