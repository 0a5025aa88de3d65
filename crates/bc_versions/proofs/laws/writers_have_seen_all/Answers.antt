use Rattle.bc_versions.proofs.Publishing.{all_seen}
use Rattle.bc_versions.proofs.laws.writers_have_seen_all.Goals as goal

pub returns : goal.returns
returns c = all_seen
