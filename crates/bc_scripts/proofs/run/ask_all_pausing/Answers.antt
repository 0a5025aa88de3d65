use Rattle.bc_share.proofs.Noting.{on_err}
use Rattle.bc_scripts.proofs.Running.{same_again}
use Rattle.bc_scripts.proofs.run.ask_all_pausing.Goals as goal

pub returns-in_err-settle_all-clause-refused : goal.returns-in_err-settle_all-clause-refused
returns-in_err-settle_all-clause-refused g c = on_err _ _ (same_again _ _ _ c.begin_all.ensures.kept c.in_err-settle_all.ensures.refused)
