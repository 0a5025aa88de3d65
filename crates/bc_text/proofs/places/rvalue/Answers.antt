use Rattle.std.proofs.Common.{refl, sym}
use Rattle.bc_text.specs.Reading.{rvalue, computed, created, captured}
use Rattle.bc_text.proofs.places.rvalue.Goals as goal

pub returns-then-eat : goal.returns-then-eat
unfolding rvalue computed created captured
returns-then-eat c =
    let borrowed = c.if-eat.ensures {u = tt} in
    rw (sym borrowed.found, sym borrowed.after, c.in_ok-borrow.ensures {u = tt}) refl

pub returns-then-sees_word : goal.returns-then-sees_word
unfolding rvalue computed created captured
returns-then-sees_word c =
    let borrowed = c.if-eat.ensures {u = tt} in
    let calculated = c.if-eat-2.ensures {u = tt} in
    rw (sym borrowed.found, sym borrowed.after, sym calculated.found, sym calculated.after, sym (c.if-sees_word.ensures {u = tt})) c.aggregate_value.ensures

pub returns-then-eat-3 : goal.returns-then-eat-3
unfolding rvalue computed created captured
returns-then-eat-3 c =
    let borrowed = c.if-eat.ensures {u = tt} in
    let calculated = c.if-eat-2.ensures {u = tt} in
    let closed = c.if-eat-3.ensures {u = tt} in
    rw (sym borrowed.found, sym borrowed.after, sym calculated.found, sym calculated.after, sym (c.if-sees_word.ensures {u = tt}), sym closed.found, sym closed.after) c.closure_value.ensures

pub returns : goal.returns
unfolding rvalue computed created captured
returns c =
    let borrowed = c.if-eat.ensures {u = tt} in
    let calculated = c.if-eat-2.ensures {u = tt} in
    let closed = c.if-eat-3.ensures {u = tt} in
    rw (sym borrowed.found, sym borrowed.after, sym calculated.found, sym calculated.after, sym (c.if-sees_word.ensures {u = tt}), sym closed.found, sym closed.after, c.in_ok-operand.ensures {u = tt}) refl
