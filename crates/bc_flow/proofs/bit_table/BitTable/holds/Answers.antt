use Rattle.std.proofs.Common.{sym, arith}
use Rattle.bc_flow.proofs.Tabled.{word_in, test_cell, no_row, no_fact}
use Rattle.bc_flow.proofs.bit_table.BitTable.holds.Goals as goal

pub returns-then-node-self : goal.returns-then-node-self
returns-then-node-self c = sym (no_row c.self.invariant c.self.view_is c.args.node c.args.fact c.if-node-self.true)

pub returns-then-fact-self : goal.returns-then-fact-self
returns-then-fact-self c = sym (no_fact c.self.invariant c.self.view_is c.args.node c.args.fact (omega (arith, c.if-node-self.false)) c.if-fact-self.true)

pub overflow_mul-node : goal.overflow_mul-node
overflow_mul-node c = omega (arith, word_in c.self.invariant c.args.node c.args.fact (omega (arith, c.if-node-self.false)) (omega (arith, c.if-fact-self.false)), c.self.inside.words.ok.0, c.self.inside.words.ok.1, c.self.inside.words.small)

pub overflow_add-node : goal.overflow_add-node
overflow_add-node c = omega (arith, word_in c.self.invariant c.args.node c.args.fact (omega (arith, c.if-node-self.false)) (omega (arith, c.if-fact-self.false)), c.self.inside.words.ok.0, c.self.inside.words.ok.1, c.self.inside.words.small)

pub index-requires : goal.index-requires
index-requires c = omega (arith, word_in c.self.invariant c.args.node c.args.fact (omega (arith, c.if-node-self.false)) (omega (arith, c.if-fact-self.false)), c.self.inside.words.ok.0, c.self.inside.words.ok.1, c.self.inside.words.small)

pub returns : goal.returns
returns c = test_cell c.self.invariant c.self.view_is c.args.node c.args.fact c.index.result.now (omega (arith, c.if-node-self.false)) (omega (arith, c.if-fact-self.false)) c.index.ensures
