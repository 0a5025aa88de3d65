use Rattle.std.proofs.Common.{◌*◌, arith}
use Rattle.bc_flow.proofs.Tabled.{cell_in, word_set}
use Rattle.bc_flow.proofs.bit_table.BitTable.set_word.Goals as goal

pub overflow_mul-at : goal.overflow_mul-at
overflow_mul-at c = omega (arith, cell_in c.self.invariant c.self.view_is c.args.node (64 * c.args.index) c.requires.node c.requires.within, c.self.inside.words.ok.0, c.self.inside.words.ok.1, c.self.inside.words.small)

pub overflow_add-at : goal.overflow_add-at
overflow_add-at c = omega (arith, cell_in c.self.invariant c.self.view_is c.args.node (64 * c.args.index) c.requires.node c.requires.within, c.self.inside.words.ok.0, c.self.inside.words.ok.1, c.self.inside.words.small)

pub index_mut-requires : goal.index_mut-requires
index_mut-requires c = omega (arith, cell_in c.self.invariant c.self.view_is c.args.node (64 * c.args.index) c.requires.node c.requires.within, c.self.inside.words.ok.0, c.self.inside.words.ok.1, c.self.inside.words.small)

pub invariant_of-self : goal.invariant_of-self
invariant_of-self c = (word_set c.self.invariant c.self.view_is c.args.node c.args.index c.args.value c.requires.node c.requires.within c.requires.clean).written.packed

pub returns-clause-rows : goal.returns-clause-rows
returns-clause-rows c = (word_set c.self.invariant c.self.view_is c.args.node c.args.index c.args.value c.requires.node c.requires.within c.requires.clean).written.length_is

pub returns-clause-others : goal.returns-clause-others
returns-clause-others c = (word_set c.self.invariant c.self.view_is c.args.node c.args.index c.args.value c.requires.node c.requires.within c.requires.clean).written.others

pub returns-clause-size : goal.returns-clause-size
returns-clause-size c = (word_set c.self.invariant c.self.view_is c.args.node c.args.index c.args.value c.requires.node c.requires.within c.requires.clean).written.size_is

pub returns-clause-word : goal.returns-clause-word
returns-clause-word c = (word_set c.self.invariant c.self.view_is c.args.node c.args.index c.args.value c.requires.node c.requires.within c.requires.clean).word

pub returns-clause-rest : goal.returns-clause-rest
returns-clause-rest c = (word_set c.self.invariant c.self.view_is c.args.node c.args.index c.args.value c.requires.node c.requires.within c.requires.clean).rest
