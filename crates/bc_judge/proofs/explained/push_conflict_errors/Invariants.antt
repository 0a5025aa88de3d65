use Rattle.std.proofs.Common.{◌≡◌, ◌++◌, ℕ, List, drop, map}
use Rattle.bc_syntax.specs.declared.syntax.Region.{Region}
use Rattle.bc_solve.specs.Chains.{TellsChains}
use Rattle.bc_judge.specs.Errors.{conflict_error}
use Rattle.bc_judge.proofs.explained.push_conflict_errors.Given as goal

abbrev pub invariant-loop-conflict : goal.invariant-loop-conflict
invariant-loop-conflict l = record {
  same : l.explainer ≡ l.initial.explainer;
  found : (chain : ℕ → ℕ → List Region) → TellsChains l.initial.explainer chain →
      l.errors.items ++ map (conflict_error l.typed chain) (drop l.conflict-index l.conflicts) ≡ l.initial.errors.items ++ map (conflict_error l.typed chain) l.conflicts;
}
