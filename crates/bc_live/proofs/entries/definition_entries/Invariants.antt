use Rattle.std.proofs.Common.{◌≡◌, ◌++◌, drop}
use Rattle.std.specs.List.{flat_map, enumerate_from}
use Rattle.bc_live.specs.Entries.{definitions_at, definition_entries}
use Rattle.bc_live.proofs.entries.definition_entries.Given as goal

abbrev pub invariant-loop-point : goal.invariant-loop-point
invariant-loop-point l =
    l.entries.items ++ flat_map definitions_at (enumerate_from l.point (drop l.point l.typed.steps)) ≡ definition_entries l.typed
