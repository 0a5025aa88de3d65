use Rattle.std.proofs.Common.{◌≡◌, ◌≤◌, ◌+◌, ◌++◌, length, drop, map}
use Rattle.bc_prov.specs.State.{number_of_child}
use Rattle.bc_outcomes.proofs.verdicts.take_kids.Given as goal

abbrev pub invariant-loop-child : goal.invariant-loop-child
invariant-loop-child l = record {
  enough : length l.children ≤ l.child-index + length l.required;
  numbers : map (λ k. k.0) l.taken.items ++ map number_of_child (drop l.child-index l.children) ≡ map number_of_child l.children;
  rest : l.initial.required ≡ map (λ k. k.1) l.taken.items ++ l.required;
}
