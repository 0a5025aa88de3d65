use Rattle.std.proofs.Common.{◌≡◌, ◌≤◌, length}
use Rattle.bc_groups.specs.Spread.{IsSpread}
use Rattle.bc_groups.proofs.components.owners.Given as goal

abbrev pub invariant-loop-left : goal.invariant-loop-left
invariant-loop-left l = record {
  left : l.left ≤ length l.roots;
  spread : IsSpread l.edges (length l.classes) l.spread;
  none_open : length l.spread.opened.items ≡ 0;
}

abbrev pub decreases-loop-left : goal.decreases-loop-left
decreases-loop-left l = l.left
