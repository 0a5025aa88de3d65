use Rattle.std.proofs.Common.{◌≤◌, ◌+◌, ◌-◌, length}
use Rattle.cli_file.proofs.Scanning.{IsPassed}
use Rattle.cli_file.proofs.section.find_header.Given as goal

abbrev pub invariant-loop-at : goal.invariant-loop-at
invariant-loop-at l = record {
  within : l.at ≤ length l.text;
  number : l.number ≤ l.first + l.at;
  passed : IsPassed l.first l.text l.at l.number;
}

abbrev pub decreases-loop-at : goal.decreases-loop-at
decreases-loop-at l = length l.text - l.at
