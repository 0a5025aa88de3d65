use Rattle.std.proofs.Common.{◌≡◌, ◌≤◌, take}
use Rattle.cli_file.specs.Statuses.{greatest}
use Rattle.cli_run.specs.Runs.{events_of}
use Rattle.cli_run.proofs.command.history_status.Given as goal

abbrev pub invariant-loop-entry : goal.invariant-loop-entry
invariant-loop-entry l = (l.status ≡ greatest (events_of (take l.entry-index l.entries))) × (l.status ≤ 2)
