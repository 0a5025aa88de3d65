use Rattle.bc_points_laws.proofs.FindingSupporters.{supporting-is-found}
use Rattle.bc_points_laws.proofs.laws.supporters_are_found.Goals as goal

pub returns : goal.returns
returns c = supporting-is-found
