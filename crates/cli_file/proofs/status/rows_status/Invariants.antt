use Rattle.std.proofs.Common.{◌≡◌, ◌≤◌, take}
use Rattle.cli_file.specs.Statuses.{rows_status}
use Rattle.cli_file.proofs.status.rows_status.Given as goal

abbrev pub invariant-loop-row : goal.invariant-loop-row
invariant-loop-row l = (l.status ≡ rows_status (take l.row-index l.rows)) × (l.status ≤ 2)
