use Rattle.bc_versions.proofs.Publishing.{admits}
use Rattle.bc_versions.proofs.front.Fronts.front.Goals as goal

pub reader-requires : goal.reader-requires
reader-requires c = admits
