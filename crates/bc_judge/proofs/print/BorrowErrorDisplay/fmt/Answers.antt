use Rattle.std.proofs.Common.{append_assoc}
use Rattle.bc_judge.proofs.print.BorrowErrorDisplay.fmt.Goals as goal

pub returns-in-Lifetime-clause-writes : goal.returns-in-Lifetime-clause-writes
returns-in-Lifetime-clause-writes g c = let h = c.write-in-Lifetime.ensures.writes in rw (c.in-Lifetime.is, append_assoc) h
