-- The walk over points to the first that breaks a rule.
use Rattle.std.proofs.Common.{◌≡◌, ℕ, ◌+◌, ◌<◌, ◌≤◌, Option, Some, None, List, ◌∷◌, length, get_or, drop, sym, ap, ◌∙◌}
use Rattle.std.specs.Option.{option_map}
use Rattle.std.proofs.lemmas.List.{at_drop_more, at_drop_all}
use Rattle.bc_bodies.specs.declared.mir.Step.{Step}
use Rattle.bc_bodies.specs.Mir.{Mir}
use Rattle.bc_breaches.specs.declared.rule.PointBreach.{PointBreach}
use Rattle.bc_breaches.specs.declared.unit.IllBreach.{IllBreach}
use Rattle.bc_breaches.specs.declared.unit.IllBreach.TheVariants as ills
use Rattle.bc_breaches.specs.Firsts.{first_of}
use Rattle.bc_breaches.specs.Typing.{point_breach, steps_breach}

module _ (mir : Mir) (steps : List Step) (i : ℕ) (step : Step) (below : i < length steps) (is : step ≡ get_or steps i step) where
  here : (found : Option PointBreach) → point_breach mir step.instruction ≡ found → steps_breach mir (drop i steps) ≡ first_of (option_map (ills.Point step.point) found) (steps_breach mir (drop (i + 1) steps))
  here found same =
      at_drop_more (steps_breach mir) steps i step below
      ∙ ap (λ x. steps_breach mir (x ∷ drop (i + 1) steps)) (sym is)
      ∙ ap (λ o. first_of (option_map (ills.Point step.point) o) (steps_breach mir (drop (i + 1) steps))) same

  -- a point without a breach is passed
  pub passed-step : (whole : Option IllBreach) → point_breach mir step.instruction ≡ None → steps_breach mir (drop i steps) ≡ whole → steps_breach mir (drop (i + 1) steps) ≡ whole
  passed-step whole none before = sym (here None none) ∙ before

  -- one with a breach is the first
  pub found-step : (whole : Option IllBreach) (breach : PointBreach) → point_breach mir step.instruction ≡ Some breach → steps_breach mir (drop i steps) ≡ whole → Some (ills.Point step.point breach) ≡ whole
  found-step whole breach found before = sym (here (Some breach) found) ∙ before

-- after the last point
pub no-step : (mir : Mir) (steps : List Step) (i : ℕ) (whole : Option IllBreach) → length steps ≤ i → steps_breach mir (drop i steps) ≡ whole → None ≡ whole
no-step mir steps i whole past before = sym (at_drop_all (steps_breach mir) steps i past) ∙ before
