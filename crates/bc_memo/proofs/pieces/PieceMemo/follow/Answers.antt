use Rattle.std.proofs.Common.{length, ap, arith}
use Rattle.std.specs.BTreeMap.{is_at}
use Rattle.bc_names.specs.Names.{name_order}
use Rattle.bc_memo.proofs.Places.{length-take_le}
use Rattle.bc_memo.proofs.pieces.PieceMemo.follow.Goals as goal

pub returns-in-Put-clause-room : goal.returns-in-Put-clause-room
returns-in-Put-clause-room c =
    let few = length-take_le c.args.self.now.rows (is_at (name_order c.in-Put.name)) in
    let same = ap length c.forget.ensures.rows in
    omega (arith, few, same, c.forget.ensures.memory)

pub returns-in-Remove-clause-room : goal.returns-in-Remove-clause-room
returns-in-Remove-clause-room c =
    let few = length-take_le c.args.self.now.rows (is_at (name_order c.in-Remove.name)) in
    let same = ap length c.forget-in-Remove.ensures.rows in
    omega (arith, few, same, c.forget-in-Remove.ensures.memory)
