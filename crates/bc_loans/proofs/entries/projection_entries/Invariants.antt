use Rattle.std.proofs.Common.{◌≡◌, ◌++◌, length, drop}
use Rattle.std.specs.List.{flat_map, enumerate_from}
use Rattle.bc_flow.specs.Flow.{AreEntriesWithin}
use Rattle.bc_loans.specs.Entries.{projection_at, projection_entries}
use Rattle.bc_loans.proofs.entries.projection_entries.Given as goal

abbrev pub invariant-loop-number : goal.invariant-loop-number
invariant-loop-number l = record {
  listed : l.entries.items ++ flat_map (projection_at l.depth) (enumerate_from l.number (drop l.number l.loans)) ≡ projection_entries l.depth l.loans;
  within : AreEntriesWithin l.entries.items 257 (length l.loans);
}
