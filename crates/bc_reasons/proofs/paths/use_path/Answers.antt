use Rattle.bc_reasons.proofs.Reaching.{none_live, first_of_chain}
use Rattle.bc_reasons.proofs.paths.use_path.Goals as goal

pub returns : goal.returns
returns c =
    none_live c.args.typed.now c.args.local c.args.point c.in_ok-facts.facts c.in_ok-facts.ensures.uses c.in_ok-facts.ensures.links (rw (c.in_ok-explainer.ensures, c.in-None.is) at c.in_ok-chain.ensures.chain)

pub returns-in-Some : goal.returns-in-Some
returns-in-Some c =
    first_of_chain c.args.typed.now c.args.local c.args.point c.in_ok-facts.facts c.in_ok-facts.ensures.universals c.in_ok-facts.ensures.uses c.in_ok-facts.ensures.links _ _
    (rw c.deref.ensures.value at c.in_ok-numbers-in-Some.ensures) (rw (c.in_ok-explainer.ensures, c.in-Some.is) at c.in_ok-chain.ensures.chain)
