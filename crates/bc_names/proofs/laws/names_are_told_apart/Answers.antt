use Rattle.bc_names.proofs.Equality.{exact_names}
use Rattle.bc_names.proofs.laws.names_are_told_apart.Goals as goal

pub returns : goal.returns
returns c = exact_names
