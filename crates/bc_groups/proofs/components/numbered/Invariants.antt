use Rattle.std.proofs.Common.{◌≡◌, ◌≤◌, ℕ, drop, length, get_or}
use Rattle.std.specs.List.{Contains}
use Rattle.bc_groups.specs.Naming.{IsNaming, IsNamed}
use Rattle.bc_groups.proofs.components.numbered.Given as goal

abbrev pub invariant-loop-left : goal.invariant-loop-left
invariant-loop-left l = record {
  left : l.left ≤ length l.order;
  labels : length l.naming.numbers.items ≡ length l.labels;
  nodes : length l.group_of.items ≡ length l.labels;
  naming : IsNaming l.naming;
  grouped : (n : ℕ) → Contains (drop l.left l.order) n → IsNamed l.naming.names.items (get_or l.group_of.items n 0) (get_or l.labels n 0);
}

abbrev pub decreases-loop-left : goal.decreases-loop-left
decreases-loop-left l = l.left
