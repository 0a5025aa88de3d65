use Rattle.std.proofs.Common.{refl}
use Rattle.bc_judge.proofs.explained.push_conflict_error.Goals as goal

pub returns-clause-pushed : goal.returns-clause-pushed
returns-clause-pushed c = λ chain tells. rw (c.in_ok-push.ensures.items, c.from.ensures, c.in_ok-chain.ensures.told chain tells, c.region_number-region.ensures.value, c.universals.ensures.value, c.printed.ensures, c.printed-2.ensures, c.steps.ensures.value, c.steps-2.ensures.value) refl
