use Rattle.std.proofs.Common.{◌≡◌, ◌≤◌, ◌++◌, drop, vec_capacity}
use Rattle.bc_versions.proofs.table.push_owners.Given as goal

abbrev pub invariant-loop-row : goal.invariant-loop-row
invariant-loop-row l = record {
  rows : l.ready.items ++ drop l.row-index l.rows ≡ l.fn.ready.items ++ l.rows;
  memory : vec_capacity l.fn.ready ≤ vec_capacity l.ready;
}
