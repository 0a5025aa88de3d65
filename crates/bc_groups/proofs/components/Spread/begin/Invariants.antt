use Rattle.std.proofs.Common.{length}
use Rattle.bc_groups.specs.Spread.{IsSpread, AreOpened, spread_work}
use Rattle.bc_groups.proofs.components.Spread.begin.Given as goal

abbrev pub invariant-loop-node : goal.invariant-loop-node
invariant-loop-node l = record {
  spread : IsSpread l.edges (length l.classes) l.self;
  opened : AreOpened l.edges (length l.classes) l.root l.self.opened.items;
}

abbrev pub decreases-loop-node : goal.decreases-loop-node
decreases-loop-node l = spread_work l.self
