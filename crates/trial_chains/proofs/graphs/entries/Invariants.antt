use Rattle.bc_flow.specs.Flow.{AreEntriesWithin}
use Rattle.trial_chains.proofs.graphs.entries.Given as goal

abbrev pub invariant-loop-turn : goal.invariant-loop-turn
invariant-loop-turn l = AreEntriesWithin l.entries.items 7 3
