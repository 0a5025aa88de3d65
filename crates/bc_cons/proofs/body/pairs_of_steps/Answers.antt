use Rattle.std.proofs.Common.{List, ◌∷◌, ◌+◌, drop, refl, sym, ap, ◌∙◌}
use Rattle.std.specs.List.{flat_map}
use Rattle.std.proofs.lemmas.List.{at_drop_more}
use Rattle.bc_bodies.specs.declared.mir.Step.{Step}
use Rattle.bc_types.proofs.Appending.{appended-turn, appended-all}
use Rattle.bc_cons.specs.Constraints.{pairs_at}
use Rattle.bc_cons.proofs.body.pairs_of_steps.Goals as goal

pub loop-step-preserved : goal.loop-step-preserved
loop-step-preserved c =
    let each = λ (steps : List Step). flat_map (λ (step : Step). pairs_at c.args.typed.now c.args.kids.now step.instruction) steps in
    let steps = c.args.steps.now in
    let i = c.loop-step.step-index in
    let one = at_drop_more each steps i c.step-item.result c.loop-step-test.true ∙ ap (λ step. each (step ∷ drop (i + 1) steps)) (sym c.step-item.is) in
    appended-turn each _ _ steps i _ _ c.in_ok-push_pairs_at.ensures one c.loop-step.invariant

pub returns : goal.returns
returns c =
    let each = λ (steps : List Step). flat_map (λ (step : Step). pairs_at c.args.typed.now c.args.kids.now step.instruction) steps in
    appended-all each _ _ c.args.steps.now c.loop-step.step-index c.loop-step-test.false refl c.loop-step.invariant
