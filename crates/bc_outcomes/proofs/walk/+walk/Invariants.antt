use Rattle.std.proofs.Common.{◌-◌, length}
use Rattle.bc_outcomes.proofs.Walking.{Walks}
use Rattle.bc_outcomes.specs.Visits.{state_in}
use Rattle.bc_outcomes.proofs.walk.+walk.Given as goal

abbrev pub decreases-walk : goal.decreases-walk
decreases-walk l = 7 - length l.name.segments

abbrev pub invariant-loop-kid : goal.invariant-loop-kid
invariant-loop-kid l = Walks (state_in l.checked) l.fn.name l.kid-items l.kid-index l.initial.visits.items l.visits.items
