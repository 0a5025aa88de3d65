use Rattle.std.proofs.Common.{◌≡◌, ◌++◌, ◌-◌, drop, length}
use Rattle.std.specs.List.{flat_map, enumerate_from}
use Rattle.bc_flow.specs.BitSet.{has}
use Rattle.bc_judge.specs.Conflicts.{conflict_with, conflicts_of_access}
use Rattle.bc_judge.proofs.conflicts.BodyLoans.push_candidates.Given as goal

abbrev pub invariant-loop-member : goal.invariant-loop-member
invariant-loop-member l =
    l.conflicts.items ++ flat_map (conflict_with l.self.typed.now (has l.scope) l.here.point (l.here.number, l.here.access.now)) (enumerate_from l.from (drop l.from l.self.loans.now))
    ≡ l.initial.conflicts.items ++ conflicts_of_access l.self.typed.now (has l.scope) l.here.point (l.here.number, l.here.access.now)

abbrev pub decreases-loop-member : goal.decreases-loop-member
decreases-loop-member l = length l.self.loans.now - l.from
