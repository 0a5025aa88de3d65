use Rattle.std.proofs.Common.{◌≡◌, ◌++◌, drop}
use Rattle.std.specs.List.{flat_map, enumerate_from}
use Rattle.bc_loans.specs.Entries.{local_at, local_entries}
use Rattle.bc_loans.proofs.entries.local_entries.Given as goal

abbrev pub invariant-loop-number : goal.invariant-loop-number
invariant-loop-number l = l.entries.items ++ flat_map local_at (enumerate_from l.number (drop l.number l.loans)) ≡ local_entries l.loans
