use Rattle.std.proofs.Common.{◌≡◌, ◌++◌, take}
use Rattle.bc_calls.specs.Calls.{calls}
use Rattle.bc_share.proofs.audit.is_own.Given as goal

abbrev pub invariant-loop-entry : goal.invariant-loop-entry
invariant-loop-entry l = l.own ≡ calls l.number (take l.entry-index l.entries) ++ l.rest
