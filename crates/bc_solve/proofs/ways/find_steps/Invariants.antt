use Rattle.bc_solve.specs.Ways.{AreStepsSoFar, LeadsBelow}
use Rattle.bc_solve.proofs.ways.find_steps.Given as goal

abbrev pub invariant-loop-shorter : goal.invariant-loop-shorter
invariant-loop-shorter l = AreStepsSoFar (LeadsBelow l.edges l.shorter) l.lengths l.steps
