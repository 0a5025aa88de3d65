use Rattle.std.proofs.Common.{refl, sym}
use Rattle.bc_text.specs.Reading.{assignment, value_of, invoking}
use Rattle.bc_text.proofs.points.assignment.Goals as goal

pub returns-then-eat : goal.returns-then-eat
unfolding assignment value_of invoking
returns-then-eat c =
    let called = c.if-eat.ensures {u = tt} in
    rw (c.in_ok-target.ensures {u = tt}, (c.in_ok-expect.ensures {u = tt}).reads, sym called.found, sym called.after) c.call.ensures

pub returns-then-eat-2 : goal.returns-then-eat-2
unfolding assignment value_of invoking
returns-then-eat-2 c =
    let called = c.if-eat.ensures {u = tt} in
    let invoked = c.if-eat-2.ensures {u = tt} in
    rw (c.in_ok-target.ensures {u = tt}, (c.in_ok-expect.ensures {u = tt}).reads, sym called.found, sym called.after, sym invoked.found, sym invoked.after) c.invocation.ensures

pub returns : goal.returns
unfolding assignment value_of invoking
returns c =
    let called = c.if-eat.ensures {u = tt} in
    let invoked = c.if-eat-2.ensures {u = tt} in
    rw (c.in_ok-target.ensures {u = tt}, (c.in_ok-expect.ensures {u = tt}).reads, sym called.found, sym called.after, sym invoked.found, sym invoked.after, c.in_ok-value.ensures {u = tt}) refl
