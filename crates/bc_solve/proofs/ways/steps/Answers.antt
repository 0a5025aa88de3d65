use Rattle.std.proofs.Common.{◌≡◌, length, drop, sym, ap, ◌∙◌, arith}
use Rattle.std.proofs.lemmas.List.{take-append-le, take_all}
use Rattle.bc_solve.proofs.ways.steps.Goals as goal

pub returns : goal.returns
returns c =
    let old = c.in_ok-steps.steps in
    let new = c.find_steps.new.steps in
    let count : length new ≡ length old.items = c.find_steps.auto.steps ∙ ap length c.deref_mut.ensures.value in
    let size : length old.items ≡ old.len = sym old.ok.0 in
    let written = take-append-le old.len new (drop (length new) old.items) (omega (arith, count, size)) ∙ take_all old.len new (omega (arith, count, size)) in
    rw written c.find_steps.ensures
