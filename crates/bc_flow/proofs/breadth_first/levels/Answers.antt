use Rattle.std.proofs.Common.{◌≡◌, length, drop, sym, ap, ◌∙◌, arith}
use Rattle.std.proofs.lemmas.List.{take-append-le, take_all}
use Rattle.bc_flow.proofs.breadth_first.levels.Goals as goal

pub returns : goal.returns
returns c =
    let old = c.in_ok-levels in
    let new = c.fill_levels.new.levels in
    let count : length new ≡ length old.levels.items = c.fill_levels.auto.levels ∙ ap length c.deref_mut.ensures.value in
    let size : length old.levels.items ≡ old.levels.len = sym old.levels.ok.0 in
    let written = take-append-le old.levels.len new (drop (length new) old.levels.items) (omega (arith, count, size)) ∙ take_all old.levels.len new (omega (arith, count, size)) in
    record {
      count = ap length written ∙ (count ∙ (size ∙ old.ensures.len));
      levels = rw written c.in_ok-fill_levels.ensures;
    }
