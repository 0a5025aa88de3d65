use Rattle.std.proofs.Common.{length, arith, ap}
use Rattle.bc_flow.proofs.Tabled.{row_in}
use Rattle.bc_flow.proofs.Parts.{room, filled_row, added_to}
use Rattle.bc_flow.proofs.bit_table.BitTable.insert_below.Goals as goal

pub overflow_mul-at : goal.overflow_mul-at
overflow_mul-at c = omega (arith, row_in c.self.invariant c.self.view_is c.args.node c.requires.node, c.self.inside.words.ok.0, c.self.inside.words.ok.1, c.self.inside.words.small)

pub overflow_add-at : goal.overflow_add-at
overflow_add-at c = omega (arith, row_in c.self.invariant c.self.view_is c.args.node c.requires.node, c.self.inside.words.ok.0, c.self.inside.words.ok.1, c.self.inside.words.small)

pub offset_bounds-deref_mut-at : goal.offset_bounds-deref_mut-at
offset_bounds-deref_mut-at c = omega (arith, row_in c.self.invariant c.self.view_is c.args.node c.requires.node, c.self.inside.words.ok.0, c.self.inside.words.ok.1, c.self.inside.words.small)

pub slice_bounds-fill_below-end : goal.slice_bounds-fill_below-end
slice_bounds-fill_below-end c = omega (arith, row_in c.self.invariant c.self.view_is c.args.node c.requires.node, ap length c.deref_mut.ensures.value)

pub fill_below-requires : goal.fill_below-requires
fill_below-requires c = room c.deref_mut.result.now c.self.invariant c.self.view_is c.deref_mut.ensures.value c.args.node c.requires.node c.args.count c.requires.count

pub invariant_of-self : goal.invariant_of-self
invariant_of-self c = (filled_row c.self.inside.words.len c.deref_mut.result.now c.fill_below.new.words c.args.node c.args.count c.self.invariant c.self.view_is c.deref_mut.ensures.value c.requires.node c.requires.count c.self.inside.words.ok.0 c.fill_below.auto.words c.fill_below.ensures).written.packed

pub returns : goal.returns
returns c = added_to (filled_row c.self.inside.words.len c.deref_mut.result.now c.fill_below.new.words c.args.node c.args.count c.self.invariant c.self.view_is c.deref_mut.ensures.value c.requires.node c.requires.count c.self.inside.words.ok.0 c.fill_below.auto.words c.fill_below.ensures)
