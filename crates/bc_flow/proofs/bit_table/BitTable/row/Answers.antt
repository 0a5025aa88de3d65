use Rattle.std.proofs.Common.{length, arith, ap}
use Rattle.bc_flow.proofs.Tabled.{row_in}
use Rattle.bc_flow.proofs.Parts.{IsPacked-part, row_of_part}
use Rattle.bc_flow.proofs.bit_table.BitTable.row.Goals as goal

pub overflow_mul-at : goal.overflow_mul-at
overflow_mul-at c = omega (arith, row_in c.self.invariant c.self.view_is c.args.node c.requires, c.self.inside.words.ok.0, c.self.inside.words.ok.1, c.self.inside.words.small)

pub overflow_add-result : goal.overflow_add-result
overflow_add-result c = omega (arith, row_in c.self.invariant c.self.view_is c.args.node c.requires, c.self.inside.words.ok.0, c.self.inside.words.ok.1, c.self.inside.words.small)

pub offset_bounds-deref-at : goal.offset_bounds-deref-at
offset_bounds-deref-at c = omega (arith, row_in c.self.invariant c.self.view_is c.args.node c.requires, c.self.inside.words.ok.0, c.self.inside.words.ok.1, c.self.inside.words.small)

pub slice_bounds-result-end : goal.slice_bounds-result-end
slice_bounds-result-end c = omega (arith, row_in c.self.invariant c.self.view_is c.args.node c.requires, ap length c.deref.ensures.value)

pub invariant_of-result : goal.invariant_of-result
invariant_of-result c = rw c.deref.ensures.value (IsPacked-part c.self.invariant c.self.view_is c.args.node c.requires)

pub returns : goal.returns
returns c = rw c.deref.ensures.value (row_of_part c.self.invariant c.self.view_is c.args.node c.requires)
