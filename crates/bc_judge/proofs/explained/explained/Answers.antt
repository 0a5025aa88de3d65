use Rattle.std.proofs.Common.{refl, ◌∙◌}
use Rattle.bc_judge.proofs.explained.explained.Goals as goal

pub push_lifetime_errors-requires : goal.push_lifetime_errors-requires
push_lifetime_errors-requires c = rw (c.in_ok-push_conflict_errors.ensures.kept, c.in_ok-explainer.ensures) c.requires.failures

pub returns : goal.returns
returns c = λ chain tells.
    let first = c.in_ok-push_conflict_errors.ensures.pushed chain (rw c.in_ok-explainer.ensures tells) in
    let both = c.in_ok-push_lifetime_errors.ensures.pushed chain (rw (c.in_ok-push_conflict_errors.ensures.kept, c.in_ok-explainer.ensures) tells) in
    both ∙ rw (first, c.new-errors.ensures.items) refl
