use Rattle.std.proofs.Common.{◌≡◌, ◌≤◌, ◌+◌, length}
use Rattle.bc_flow.specs.Levels.{AreLevelsUpTo, unreached}
use Rattle.bc_flow.proofs.breadth_first.fill_levels.Given as goal

abbrev pub invariant-levels : goal.invariant-levels
invariant-levels l = record {
  count : length l.levels ≡ length l.fn.levels;
  spread : AreLevelsUpTo l.edges l.sources l.level l.levels l.front.items;
  few : l.level + unreached l.levels + length l.front.items ≤ length l.fn.levels + 1;
}

abbrev pub decreases-levels : goal.decreases-levels
decreases-levels l = unreached l.levels + length l.front.items
