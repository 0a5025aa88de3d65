use Rattle.trial_chains.proofs.plain.+push_chain.Given as goal

abbrev pub decreases-push_chain : goal.decreases-push_chain
decreases-push_chain l = l.constraints
