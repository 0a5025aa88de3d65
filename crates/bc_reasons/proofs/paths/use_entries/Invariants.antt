use Rattle.std.proofs.Common.{◌≡◌, ◌++◌, drop}
use Rattle.std.specs.List.{flat_map, enumerate_from}
use Rattle.bc_live.specs.Entries.{uses_at, use_entries}
use Rattle.bc_reasons.proofs.paths.use_entries.Given as goal

abbrev pub invariant-loop-point : goal.invariant-loop-point
invariant-loop-point l =
    l.entries.items ++ flat_map (uses_at l.typed) (enumerate_from l.point (drop l.point l.typed.steps)) ≡ use_entries l.typed
