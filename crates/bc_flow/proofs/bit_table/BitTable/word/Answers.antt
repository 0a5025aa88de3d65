use Rattle.std.proofs.Common.{◌*◌, arith}
use Rattle.bc_flow.proofs.Tabled.{cell_in, word_of}
use Rattle.bc_flow.proofs.bit_table.BitTable.word.Goals as goal

pub overflow_mul-node : goal.overflow_mul-node
overflow_mul-node c = omega (arith, cell_in c.self.invariant c.self.view_is c.args.node (64 * c.args.index) c.requires.node c.requires.within, c.self.inside.words.ok.0, c.self.inside.words.ok.1, c.self.inside.words.small)

pub overflow_add-node : goal.overflow_add-node
overflow_add-node c = omega (arith, cell_in c.self.invariant c.self.view_is c.args.node (64 * c.args.index) c.requires.node c.requires.within, c.self.inside.words.ok.0, c.self.inside.words.ok.1, c.self.inside.words.small)

pub index-requires : goal.index-requires
index-requires c = omega (arith, cell_in c.self.invariant c.self.view_is c.args.node (64 * c.args.index) c.requires.node c.requires.within, c.self.inside.words.ok.0, c.self.inside.words.ok.1, c.self.inside.words.small)

pub returns : goal.returns
returns c = word_of c.self.invariant c.self.view_is c.args.node c.args.index c.index.result.now c.requires.node c.requires.within c.index.ensures
