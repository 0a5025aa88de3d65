use Rattle.std.proofs.Common.{length, ap, ◌∙◌}
use Rattle.bc_flow.specs.Flow.{holds}
use Rattle.bc_loans.proofs.Listing.{makers_within}
use Rattle.bc_loans.proofs.Ways.{walked_is_scope}
use Rattle.bc_loans.proofs.scopes.in_scope.Goals as goal

pub of-requires-clause-makers : goal.of-requires-clause-makers
of-requires-clause-makers c = rw (c.deref.ensures.value, c.in_ok-loans.ensures, c.steps.ensures.value) (makers_within c.args.typed.now)

pub returns : goal.returns
returns c =
    let is = c.in_ok-flow.ensures in
    let loans = is.loans ∙ c.deref.ensures.value ∙ c.in_ok-loans.ensures in
    let steps = is.steps ∙ c.steps.ensures.value in
    record {
      points = c.in_ok-rows.ensures.points ∙ ap length steps;
      loans = rw loans at c.in_ok-rows.ensures.loans;
      scopes = λ l p.
          let walked = (rw (loans, steps, is.universals ∙ c.universals.ensures.value, is.values, is.edges ∙ c.deref-2.ensures.value ∙ c.in_ok-edges.ensures.value) at c.in_ok-rows.ensures.walked) l p in
          let scope = walked_is_scope c.args.typed.now (holds c.args.values.now) l p in
          (λ h. scope.0 (walked.0 h), λ h. walked.1 (scope.1 h));
    }
