use Rattle.std.proofs.Common.{◌≡◌, ◌≤◌, ◌+◌, ◌*◌, ◌++◌, length, drop}
use Rattle.std.specs.List.{flat_map}
use Rattle.bc_judge.specs.Lines.{next_region}
use Rattle.bc_report.proofs.texts.put_regions.Given as goal

abbrev pub invariant-loop-left : goal.invariant-loop-left
invariant-loop-left l = record {
  within : l.left ≤ length l.regions;
  room : 8 * l.left + 15 ≤ l.start;
  before : l.start ≤ l.fn.end;
  near : l.fn.end + 8 * l.left ≤ l.start + 8 * length l.regions;
  written : drop l.start l.line ≡ flat_map next_region (drop l.left l.regions) ++ drop l.fn.end l.fn.line;
}

abbrev pub decreases-loop-left : goal.decreases-loop-left
decreases-loop-left l = l.left
