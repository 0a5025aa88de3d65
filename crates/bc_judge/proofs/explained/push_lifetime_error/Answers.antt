use Rattle.std.proofs.Common.{refl}
use Rattle.bc_judge.proofs.explained.push_lifetime_error.Goals as goal

pub returns-clause-pushed : goal.returns-clause-pushed
returns-clause-pushed c = λ chain tells. rw (c.in_ok-push.ensures.items, c.from-3.ensures, c.in_ok-chain.ensures.told chain tells, c.from.ensures, c.from-2.ensures, c.steps.ensures.value) refl
