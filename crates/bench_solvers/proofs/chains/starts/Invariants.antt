use Rattle.bc_flow.specs.Flow.{AreEntriesWithin}
use Rattle.bench_solvers.proofs.chains.starts.Given as goal

abbrev pub invariant-loop-turn : goal.invariant-loop-turn
invariant-loop-turn l = record {
  within : AreEntriesWithin l.entries.items 1040 4112;
}
