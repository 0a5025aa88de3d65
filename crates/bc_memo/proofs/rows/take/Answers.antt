use Rattle.std.proofs.Common.{◌∙◌}
use Rattle.bc_memo.proofs.Places.{remove_take, take_missed}
use Rattle.bc_memo.proofs.rows.take.Goals as goal

pub returns-in-Ok-clause-rows : goal.returns-in-Ok-clause-rows
returns-in-Ok-clause-rows g c =
    let f = c.in-Ok.ensures.found in
    c.remove.ensures.items ∙ rw (← c.deref.ensures.value) (remove_take _ c.args.name.now c.in-Ok.place f.within f.above f.at)

pub returns-in_default-clause-rows : goal.returns-in_default-clause-rows
returns-in_default-clause-rows g c =
    let f = c.in_default.ensures.missed in
    rw (← c.deref.ensures.value) (take_missed _ c.args.name.now c.in_default.field-0 f.above f.below)
