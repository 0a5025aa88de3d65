use Rattle.std.proofs.Common.{◌≡◌, ◌<◌, ◌≤◌, ◌-◌, ℕ, false, length}
use Rattle.bc_judge.specs.Candidates.{both_have}
use Rattle.bc_judge.proofs.candidates.next_in_both.Given as goal

abbrev pub invariant-loop-member : goal.invariant-loop-member
invariant-loop-member l = record {
  onward : l.from ≤ l.at;
  passed : (i : ℕ) → l.from ≤ i → i < l.at → both_have l.one l.other i ≡ false;
}

abbrev pub decreases-loop-member : goal.decreases-loop-member
decreases-loop-member l = length l.one - l.at
