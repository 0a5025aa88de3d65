use Rattle.std.proofs.Common.{arith}
use Rattle.std.specs.Prelude.{◌&&◌, nat_lt}
use Rattle.bc_flow.specs.BitSet.{has}
use Rattle.bc_flow.proofs.Tabled.{size_is}
use Rattle.bc_flow.proofs.Parts.{AreAdded-same, below_size}
use Rattle.bc_flow.proofs.bit_table.BitTable.union_row.Goals as goal

pub union_row_below-requires-clause-count : goal.union_row_below-requires-clause-count
union_row_below-requires-clause-count c = omega (arith, size_is c.union_row_below.invariant c.union_row_below.view_is c.args.node c.requires.node)

pub returns : goal.returns
returns c =
    let size = c.union_row_below.inside.size in
    AreAdded-same (λ f. nat_lt f size && has c.args.from.now f) (has c.args.from.now)
    (below_size c.args.from.now size (omega (arith, c.requires.from, size_is c.union_row_below.invariant c.union_row_below.view_is c.args.node c.requires.node)))
    c.union_row_below-2.ensures
