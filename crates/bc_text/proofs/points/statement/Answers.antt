use Rattle.std.proofs.Common.{refl, sym}
use Rattle.bc_text.specs.Reading.{statement, dropping, active}
use Rattle.bc_text.proofs.points.statement.Goals as goal

pub returns-then-eat : goal.returns-then-eat
unfolding statement dropping active
returns-then-eat c =
    let dead = c.if-eat.ensures {u = tt} in
    rw (sym dead.found, sym dead.after, c.in_ok-local.ensures {u = tt}) refl

pub returns-then-eat-2 : goal.returns-then-eat-2
unfolding statement dropping active
returns-then-eat-2 c =
    let dead = c.if-eat.ensures {u = tt} in
    let drop = c.if-eat-2.ensures {u = tt} in
    rw (sym dead.found, sym dead.after, sym drop.found, sym drop.after, c.in_ok-place.ensures {u = tt}) refl

pub returns-then-eat-3 : goal.returns-then-eat-3
unfolding statement dropping active
returns-then-eat-3 c =
    let dead = c.if-eat.ensures {u = tt} in
    let drop = c.if-eat-2.ensures {u = tt} in
    let nop = c.if-eat-3.ensures {u = tt} in
    rw (sym dead.found, sym dead.after, sym drop.found, sym drop.after, sym nop.found, sym nop.after) refl

pub returns : goal.returns
unfolding statement dropping active
returns c =
    let dead = c.if-eat.ensures {u = tt} in
    let drop = c.if-eat-2.ensures {u = tt} in
    let nop = c.if-eat-3.ensures {u = tt} in
    rw (sym dead.found, sym dead.after, sym drop.found, sym drop.after, sym nop.found, sym nop.after) c.assignment.ensures
