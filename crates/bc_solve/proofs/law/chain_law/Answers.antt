use Rattle.bc_solve.proofs.Shortest.{only_one, explained_once}
use Rattle.bc_solve.proofs.Existing.{value_is_chain}
use Rattle.bc_solve.proofs.First.{teller}
use Rattle.bc_solve.proofs.law.chain_law.Goals as goal

pub returns-clause-value : goal.returns-clause-value
returns-clause-value c = value_is_chain

pub returns-clause-one : goal.returns-clause-one
returns-clause-one c = only_one

pub returns-clause-once : goal.returns-clause-once
returns-clause-once c = explained_once

pub returns-clause-told : goal.returns-clause-told
returns-clause-told c = teller
