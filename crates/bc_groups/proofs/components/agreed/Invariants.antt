use Rattle.std.proofs.Common.{◌≡◌, ◌<◌, ℕ, length}
use Rattle.bc_groups.specs.Groups.{IsAgreed}
use Rattle.bc_groups.proofs.components.agreed.Given as goal

abbrev pub invariant-loop-node : goal.invariant-loop-node
invariant-loop-node l = record {
  count : length l.labels.items ≡ l.node;
  agreed : (n : ℕ) → n < l.node → IsAgreed l.before l.behind l.labels.items n;
}
