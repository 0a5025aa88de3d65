use Rattle.std.proofs.Common.{length, ap, arith}
use Rattle.bc_book.proofs.ledger.Ledger.make_ready.Goals as goal

pub invariant_of-self : goal.invariant_of-self
invariant_of-self c = rw c.reserve.ensures.items c.self.invariant

pub invariant_of-self-in_err-reserve-2 : goal.invariant_of-self-in_err-reserve-2
invariant_of-self-in_err-reserve-2 c = rw (c.reserve-2.ensures.same, c.reserve.ensures.items) c.self.invariant

pub invariant_of-self-in_err-reserve-3 : goal.invariant_of-self-in_err-reserve-3
invariant_of-self-in_err-reserve-3 c = rw (c.reserve-3.ensures.same, c.reserve-2.ensures.same, c.reserve.ensures.items) c.self.invariant

pub invariant_of-self-in_err-reserve-4 : goal.invariant_of-self-in_err-reserve-4
invariant_of-self-in_err-reserve-4 c =
    let more = c.reserve-4.ensures.memory in
    let long = ap length c.reserve-4.ensures.rows in
    let room = c.self.invariant.2 in
    rw (c.reserve-4.ensures.rows, c.reserve-3.ensures.same, c.reserve-2.ensures.same, c.reserve.ensures.items) (c.self.invariant.0, c.self.invariant.1, omega (arith, more, long, room))

pub invariant_of-self-2 : goal.invariant_of-self-2
invariant_of-self-2 c =
    let more = c.reserve-4.ensures.memory in
    let long = ap length c.reserve-4.ensures.rows in
    let room = c.self.invariant.2 in
    rw (c.prepare.ensures.same, c.reserve-4.ensures.rows, c.reserve-3.ensures.same, c.reserve-2.ensures.same, c.reserve.ensures.items)
    (c.self.invariant.0, c.self.invariant.1, omega (arith, more, long, room))
