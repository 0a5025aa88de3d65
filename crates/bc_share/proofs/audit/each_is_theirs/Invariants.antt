use Rattle.std.proofs.Common.{ℕ, ◌<◌, get_or}
use Rattle.std.specs.List.{Contains}
use Rattle.bc_calls.specs.declared.call.Entry.{Entry}
use Rattle.bc_share.specs.Closings.{numbers}
use Rattle.bc_share.proofs.audit.each_is_theirs.Given as goal

abbrev pub invariant-loop-entry : goal.invariant-loop-entry
invariant-loop-entry g l = (k : ℕ) (d : Entry) → k < l.entry-index → Contains (numbers l.sessions) (get_or l.entries k d).session
