use Rattle.bc_outcomes.proofs.Gathering.{Gathers}
use Rattle.bc_outcomes.specs.Visits.{state_in}
use Rattle.bc_outcomes.proofs.walk.find_kids.Given as goal

abbrev pub invariant-loop-number : goal.invariant-loop-number
invariant-loop-number l = Gathers (state_in l.checked) l.name l.numbers l.number-index l.kids.items
