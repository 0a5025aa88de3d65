use Rattle.bc_flow.specs.Flow.{holds}
use Rattle.bc_cons.specs.Starts.{starts_with}
use Rattle.bc_cons.specs.Constraints.{constraints_of}
use Rattle.bc_prov.proofs.Starts.{value_over, errors_over}
use Rattle.bc_prov.proofs.body.verdict_on.Goals as goal

pub returns-clause-verdict : goal.returns-clause-verdict
returns-clause-verdict g c = record {
  live = holds c.in_ok-live.live;
  value = holds c.in_ok-values.values;
  in_scope = holds c.in_ok-scopes.scopes;
  tells_live = c.in_ok-live.ensures;
  tells_value = value_over (holds c.in_ok-facts.facts.starts) (starts_with c.args.typed.now (holds c.in_ok-live.live)) c.in_ok-facts.facts.pairs (constraints_of c.args.typed.now c.args.kids.now) (holds c.in_ok-values.values)
      c.in_ok-facts.ensures.starts c.in_ok-facts.ensures.pairs c.in_ok-values.ensures;
  tells_scope = c.in_ok-scopes.ensures;
  errors = errors_over c.args.typed.now (holds c.in_ok-scopes.scopes) (holds c.in_ok-values.values) c.in_ok-verdict.verdict.errors c.in_ok-facts.facts.universals c.args.typed.now.universals
      (holds c.in_ok-facts.facts.starts) (starts_with c.args.typed.now (holds c.in_ok-live.live)) c.in_ok-facts.facts.pairs (constraints_of c.args.typed.now c.args.kids.now)
      c.in_ok-facts.ensures.numbering c.in_ok-facts.ensures.starts c.in_ok-facts.ensures.pairs c.in_ok-verdict.ensures.errors;
  requirements = c.in_ok-verdict.ensures.requirements;
}
