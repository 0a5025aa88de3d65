use Rattle.std.proofs.Common.{◌≡◌, ◌≤◌, take}
use Rattle.cli_run.specs.Runs.{greatest_end}
use Rattle.cli_run.proofs.command.ends_status.Given as goal

abbrev pub invariant-loop-end : goal.invariant-loop-end
invariant-loop-end l = (l.status ≡ greatest_end (take l.end-index l.ends)) × (l.status ≤ 3)
