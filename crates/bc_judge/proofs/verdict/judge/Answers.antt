use Rattle.std.proofs.Common.{refl, ◌∙◌}
use Rattle.bc_flow.specs.Flow.{holds}
use Rattle.bc_solve.specs.Chains.{Explains}
use Rattle.bc_solve.proofs.First.{teller}
use Rattle.bc_judge.proofs.Inside.{conflicts_inside, explained_one, explains_values, failures_have_ends, scopes_within}
use Rattle.bc_judge.proofs.Law.{listed_is_error, listed_is_required, required_may_go_up}
use Rattle.bc_judge.proofs.verdict.judge.Goals as goal

pub errors_over-requires : goal.errors_over-requires
errors_over-requires c = record {
  conflicts = rw c.rows.ensures (conflicts_inside c.args.typed.now c.args.facts.now c.args.values.now c.args.scopes.now c.requires.values c.requires.scopes);
  failures = rw (c.deref.ensures.value, c.in_ok-failures.ensures)
      (failures_have_ends c.args.typed.now c.args.facts.now c.args.values.now (holds c.in_ok-known.known) c.requires.values c.in_ok-known.ensures.tells);
}

pub returns-clause-errors : goal.returns-clause-errors
returns-clause-errors c =
    let told = teller c.args.facts.now in
    record {
      known = holds c.in_ok-known.known;
      decides = c.in_ok-known.ensures.tells;
      chain = told.0;
      explains = explains_values c.args.facts.now c.args.values.now told.0 c.requires.values told.1;
      listed = c.from.ensures ∙ c.in_ok-errors.ensures told.0 told.1
          ∙ rw (c.rows.ensures, c.deref.ensures.value, c.in_ok-failures.ensures) refl;
    }

pub returns-clause-error : goal.returns-clause-error
returns-clause-error c =
    let found = returns-clause-errors c in
    rw found.listed
    (listed_is_error c.args.typed.now (Explains c.args.facts.now) (holds c.args.scopes.now) (holds c.args.values.now) found.known found.chain
    (scopes_within c.args.typed.now (holds c.args.values.now) (holds c.args.scopes.now) c.requires.scopes) found.decides (explained_one c.args.facts.now) found.explains)

pub returns-clause-requirement : goal.returns-clause-requirement
returns-clause-requirement c =
    rw (c.in_ok-requirements.ensures, c.deref-2.ensures.value, c.in_ok-failures.ensures)
    (listed_is_required c.args.typed.now (holds c.args.values.now) (holds c.in_ok-known.known) c.in_ok-known.ensures.tells)

pub returns-clause-external : goal.returns-clause-external
returns-clause-external c = rw (c.in_ok-requirements.ensures) (required_may_go_up c.args.typed.now _)

pub returns-clause-requirements : goal.returns-clause-requirements
returns-clause-requirements c = record {
  known = holds c.in_ok-known.known;
  decides = c.in_ok-known.ensures.tells;
  listed = rw (c.in_ok-requirements.ensures, c.deref-2.ensures.value, c.in_ok-failures.ensures) refl;
}
