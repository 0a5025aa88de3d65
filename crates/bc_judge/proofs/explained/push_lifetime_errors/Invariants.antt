use Rattle.std.proofs.Common.{◌≡◌, ◌++◌, ℕ, List, drop, map}
use Rattle.bc_syntax.specs.declared.syntax.Region.{Region}
use Rattle.bc_solve.specs.Chains.{TellsChains}
use Rattle.bc_judge.specs.Errors.{lifetime_error}
use Rattle.bc_judge.proofs.explained.push_lifetime_errors.Given as goal

abbrev pub invariant-loop-failure : goal.invariant-loop-failure
invariant-loop-failure l = record {
  same : l.explainer ≡ l.initial.explainer;
  found : (chain : ℕ → ℕ → List Region) → TellsChains l.initial.explainer chain →
      l.errors.items ++ map (lifetime_error l.typed chain) (drop l.failure-index l.failures) ≡ l.initial.errors.items ++ map (lifetime_error l.typed chain) l.failures;
}
