use Rattle.std.proofs.Common.{arith}
use Rattle.bc_flow.proofs.Tabled.{rows_is, no_row}
use Rattle.bc_flow.proofs.bit_table.BitTable.get.Goals as goal

pub row-requires : goal.row-requires
row-requires c = omega (arith, rows_is c.self.invariant c.self.view_is, c.if-node-self.true)

pub returns-then-node-self-clause-within : goal.returns-then-node-self-clause-within
returns-then-node-self-clause-within c = omega (arith, rows_is c.self.invariant c.self.view_is, c.if-node-self.true)

pub returns-else-node-self-clause-row : goal.returns-else-node-self-clause-row
returns-else-node-self-clause-row c = λ f. no_row c.self.invariant c.self.view_is c.args.node f c.if-node-self.false

pub returns-else-node-self-clause-within : goal.returns-else-node-self-clause-within
returns-else-node-self-clause-within c = omega (arith, rows_is c.self.invariant c.self.view_is, c.if-node-self.false)
