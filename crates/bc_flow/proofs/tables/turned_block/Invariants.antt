use Rattle.std.proofs.Common.{◌*◌}
use Rattle.bc_flow.proofs.Turned.{AreGathered}
use Rattle.bc_flow.proofs.tables.turned_block.Given as goal

abbrev pub invariant-loop-k : goal.invariant-loop-k
invariant-loop-k l = AreGathered (64 * l.part) l.word l.k l.rows l.words
