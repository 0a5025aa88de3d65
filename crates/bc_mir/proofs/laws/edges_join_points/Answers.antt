use Rattle.bc_mir.proofs.Kept.{edges-join}
use Rattle.bc_mir.proofs.laws.edges_join_points.Goals as goal

pub returns : goal.returns
returns c = edges-join
