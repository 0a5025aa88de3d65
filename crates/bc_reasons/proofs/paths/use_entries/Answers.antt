use Rattle.std.proofs.Common.{ℕ, List, ◌∷◌, ◌+◌, drop, refl, sym, ap, ◌∙◌}
use Rattle.std.specs.List.{flat_map, enumerate_from}
use Rattle.std.proofs.lemmas.List.{at_drop_more}
use Rattle.bc_bodies.specs.declared.mir.Step.{Step}
use Rattle.bc_live.specs.Entries.{uses_at}
use Rattle.bc_live.proofs.Appending.{appended-turn, appended-all}
use Rattle.bc_reasons.proofs.paths.use_entries.Goals as goal

pub loop-point-preserved : goal.loop-point-preserved
loop-point-preserved c =
    let each = λ (n : ℕ) (steps : List Step). flat_map (uses_at c.args.typed.now) (enumerate_from n steps) in
    let all = c.steps-step-items.ensures.value in
    let steps = c.args.typed.now.steps in
    let i = c.loop-point.point in
    let one = at_drop_more (each i) steps i c.step-item.result (rw all at c.loop-point-test.true) ∙ ap (λ step. each i (step ∷ drop (i + 1) steps)) (sym (rw all at c.step-item.is)) in
    appended-turn each _ _ steps i _ _ (rw (c.deref.ensures.value, c.in_ok-push_uses.ensures, c.clear.ensures.items) at c.in_ok-push_entries.ensures) one c.loop-point.invariant

pub returns : goal.returns
returns c =
    let each = λ (n : ℕ) (steps : List Step). flat_map (uses_at c.args.typed.now) (enumerate_from n steps) in
    appended-all each _ _ c.args.typed.now.steps c.loop-point.point (rw c.steps-step-items.ensures.value at c.loop-point-test.false) refl c.loop-point.invariant
