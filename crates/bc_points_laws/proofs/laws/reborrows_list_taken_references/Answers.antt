use Rattle.bc_points_laws.proofs.Supporters.{supporting-references}
use Rattle.bc_points_laws.proofs.laws.reborrows_list_taken_references.Goals as goal

pub returns : goal.returns
returns c = supporting-references
