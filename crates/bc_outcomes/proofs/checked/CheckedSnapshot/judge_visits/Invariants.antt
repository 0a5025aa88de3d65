use Rattle.std.proofs.Common.{vec_len}
use Rattle.bc_prov.specs.Pieces.{AreSomeOf}
use Rattle.bc_outcomes.proofs.Folding.{Folds}
use Rattle.bc_outcomes.specs.Visits.{state_in}
use Rattle.bc_outcomes.proofs.checked.CheckedSnapshot.judge_visits.Given as goal

abbrev pub invariant-loop-visit : goal.invariant-loop-visit
invariant-loop-visit g l = Folds (state_in l.self) l.self.snapshot.now.root l.visits.items l.required l.found × AreSomeOf l.found l.unkept

abbrev pub decreases-loop-visit : goal.decreases-loop-visit
decreases-loop-visit g l = vec_len l.visits
