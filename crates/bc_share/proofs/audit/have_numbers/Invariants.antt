use Rattle.std.proofs.Common.{ℕ, ◌<◌}
use Rattle.std.specs.List.{Contains}
use Rattle.bc_share.specs.Closings.{numbers}
use Rattle.bc_share.proofs.audit.have_numbers.Given as goal

abbrev pub invariant-loop-number : goal.invariant-loop-number
invariant-loop-number g l = (k : ℕ) → k < l.number → Contains (numbers l.sessions) k
