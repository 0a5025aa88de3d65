use Rattle.bc_flow.specs.Flow.{holds}
use Rattle.bc_solve.specs.Chains.{Explains}
use Rattle.bc_solve.proofs.Shortest.{explained_once}
use Rattle.bc_solve.proofs.explainer.Explainer.chain.Goals as goal

pub returns-clause-told : goal.returns-clause-told
returns-clause-told c = λ chain tells.
    let facts = c.args.self.now in
    let explains : Explains facts c.args.region c.args.element c.unwrap.result.items = rw c.unwrap.ensures at c.in_ok-found.ensures.chain in
    explained_once facts.universals (holds facts.starts) facts.pairs c.args.region c.args.element c.unwrap.result.items (chain c.args.region c.args.element) explains (tells c.args.region c.args.element c.requires)
