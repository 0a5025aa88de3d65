use Rattle.std.proofs.Common.{length}
use Rattle.bc_names.proofs.Segments.{Reads}
use Rattle.bc_names.proofs.name.Name.read.Given as goal

abbrev pub invariant-loop-number : goal.invariant-loop-number
invariant-loop-number l = Reads l.fn.bytes l.rest l.name

abbrev pub decreases-loop-number : goal.decreases-loop-number
decreases-loop-number l = length l.rest
