use Rattle.std.proofs.Common.{◌≡◌, ◌++◌, drop}
use Rattle.std.specs.List.{flat_map, enumerate_from}
use Rattle.bc_flow.specs.BitSet.{has}
use Rattle.bc_judge.specs.Conflicts.{conflicts_of_access}
use Rattle.bc_judge.proofs.conflicts.BodyLoans.push_conflicts.Given as goal

abbrev pub invariant-loop-number : goal.invariant-loop-number
invariant-loop-number l =
    l.conflicts.items ++ flat_map (conflicts_of_access l.self.typed.now (has l.scope) l.point) (enumerate_from l.number (drop l.number l.accesses))
    ≡ l.initial.conflicts.items ++ flat_map (conflicts_of_access l.self.typed.now (has l.scope) l.point) (enumerate_from 0 l.accesses)
