use Rattle.bc_points_laws.proofs.Chains.{is_prefix-chain}
use Rattle.bc_points_laws.proofs.laws.prefixes_chain.Goals as goal

pub returns : goal.returns
returns c = is_prefix-chain
