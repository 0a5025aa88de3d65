use Rattle.std.proofs.Common.{◌≡◌, ◌≤◌, ◌-◌}
use Rattle.bc_position.specs.Positions.{position_in}
use Rattle.bc_source.proofs.starts.position_from.Given as goal

abbrev pub invariant-loop-passed : goal.invariant-loop-passed
invariant-loop-passed l = record {
  position : l.position ≡ position_in l.text l.passed;
  within : l.passed ≤ l.at;
}

abbrev pub decreases-loop-passed : goal.decreases-loop-passed
decreases-loop-passed l = l.at - l.passed
