use Rattle.bc_flow.proofs.NextBit.{bit_below, next_of_set}
use Rattle.bc_flow.proofs.bit_table.BitRow.next_member.Goals as goal

pub next_bit-requires : goal.next_bit-requires
next_bit-requires c = bit_below c.self.invariant

pub returns : goal.returns
returns c = next_of_set c.self.invariant c.self.view_is c.args.from c.next_bit.result c.next_bit.ensures
