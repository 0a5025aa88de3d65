use Rattle.bc_flow.proofs.Ways.{turned_within}
use Rattle.bc_solve.proofs.values.visit_order.Goals as goal

pub edge_chains-requires : goal.edge_chains-requires
edge_chains-requires c = rw (c.deref.ensures.value, c.in_ok-back.ensures) (turned_within _ _ c.requires)

pub postorder-requires-clause-edges : goal.postorder-requires-clause-edges
postorder-requires-clause-edges c = rw (c.deref-2.ensures.value, c.in_ok-back.ensures) (turned_within _ _ c.requires)

pub postorder-requires-clause-chains : goal.postorder-requires-clause-chains
postorder-requires-clause-chains c = rw c.deref-2.ensures.value (rw c.deref.ensures.value at c.in_ok-chains.ensures)

pub returns-clause-order : goal.returns-clause-order
returns-clause-order c = rw (c.deref-2.ensures.value, c.in_ok-back.ensures) at c.postorder.ensures.order
