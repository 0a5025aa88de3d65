use Rattle.std.proofs.Common.{refl, sym}
use Rattle.bc_text.specs.Reading.{point, stopping, going, branching}
use Rattle.bc_text.proofs.points.other_point.Goals as goal

pub returns-then-eat : goal.returns-then-eat
unfolding point stopping going branching
returns-then-eat c =
    let returned = c.if-eat.ensures {u = tt} in
    rw (sym returned.found, sym returned.after) refl

pub returns-then-eat-2 : goal.returns-then-eat-2
unfolding point stopping going branching
returns-then-eat-2 c =
    let returned = c.if-eat.ensures {u = tt} in
    let stopped = c.if-eat-2.ensures {u = tt} in
    rw (sym returned.found, sym returned.after, sym stopped.found, sym stopped.after) refl

pub returns-then-eat-4 : goal.returns-then-eat-4
unfolding point stopping going branching
returns-then-eat-4 c =
    let returned = c.if-eat.ensures {u = tt} in
    let stopped = c.if-eat-2.ensures {u = tt} in
    let gone = c.if-eat-3.ensures {u = tt} in
    let branched = c.if-eat-4.ensures {u = tt} in
    rw (sym returned.found, sym returned.after, sym stopped.found, sym stopped.after, sym gone.found, sym gone.after, sym branched.found, sym branched.after, c.in_ok-condition.ensures {u = tt}) refl

pub returns : goal.returns
unfolding point stopping going branching
returns c =
    let returned = c.if-eat.ensures {u = tt} in
    let stopped = c.if-eat-2.ensures {u = tt} in
    let gone = c.if-eat-3.ensures {u = tt} in
    let branched = c.if-eat-4.ensures {u = tt} in
    rw (sym returned.found, sym returned.after, sym stopped.found, sym stopped.after, sym gone.found, sym gone.after, sym branched.found, sym branched.after) c.statement.ensures
