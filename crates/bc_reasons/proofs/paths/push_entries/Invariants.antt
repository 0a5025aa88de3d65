use Rattle.std.proofs.Common.{◌≡◌, ◌++◌, drop}
use Rattle.bc_live.specs.Entries.{entries_at}
use Rattle.bc_reasons.proofs.paths.push_entries.Given as goal

abbrev pub invariant-loop-local : goal.invariant-loop-local
invariant-loop-local l =
    l.entries.items ++ entries_at l.point (drop l.local-index l.locals) ≡ l.initial.entries.items ++ entries_at l.point l.locals
