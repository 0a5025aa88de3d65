use Rattle.std.proofs.Common.{◌<◌, ◌≤◌, ◌-◌, length}
use Rattle.bc_flow.specs.Chains.{Leaves}
use Rattle.bc_groups.specs.Spread.{IsSpread, AreOpened, spread_work}
use Rattle.bc_groups.proofs.components.Spread.visit.Given as goal

abbrev pub invariant-loop-at : goal.invariant-loop-at
invariant-loop-at l = record {
  spread : IsSpread l.edges (length l.classes) l.self;
  opened : AreOpened l.edges (length l.classes) l.root l.self.opened.items;
  work : spread_work l.self ≤ spread_work l.initial.self;
  within : l.at ≤ length l.edges;
  leaves : l.at < length l.edges → Leaves l.edges l.node l.at;
}

abbrev pub decreases-loop-at : goal.decreases-loop-at
decreases-loop-at l = length l.edges - l.at
