use Rattle.bc_share.proofs.Noting.{on_err}
use Rattle.bc_scripts.proofs.Running.{same_again}
use Rattle.bc_scripts.proofs.run.ask_pausing.Goals as goal

pub returns-in_err-settle-clause-refused : goal.returns-in_err-settle-clause-refused
returns-in_err-settle-clause-refused g c = on_err _ _ (same_again _ _ _ c.begin.ensures.kept c.in_err-settle.ensures.refused)
