use Rattle.std.proofs.Common.{rules, arith}
use Rattle.smallvec.specs.SmallVec.{HasRoomFor}
use Rattle.bc_syntax.proofs.sequence.ShortSequence.push.Goals as goal
use Rattle.bc_syntax.proofs.sequence.ShortSequence.push.Goals.{then-len-capacity+in_ok-make_room, else-len-capacity}

pub push_reserved-requires : goal.push_reserved-requires
push_reserved-requires g c =
    let room : HasRoomFor c.if-len-capacity.items 1 = elim c.if-len-capacity.branch [
      | then-len-capacity+in_ok-make_room w ↦ rw w.items-is w.in_ok-make_room.ensures.ok
      | else-len-capacity w ↦ rw w.items-is (omega (arith, w.if-len-capacity.false, c.len.ensures.value, c.capacity.ensures.value))
    ] in
    (search rules, room)
