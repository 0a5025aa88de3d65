use Rattle.std.proofs.Common.{◌≡◌, ℕ, zero, suc, ◌<◌, Bool, true, false, cond, Option, Some, None, List, [], ◌∷◌, length, get_or, refl, ap, ◌∙◌, arith}
use Rattle.std.specs.Option.{option_map}
use Rattle.bc_bodies.specs.declared.mir.Point.{Point}
use Rattle.bc_bodies.specs.declared.mir.Step.{Step}
use Rattle.bc_mir.specs.declared.typed.Where.TheVariants.{Header, At}
use Rattle.bc_bodies.specs.Mir.{Mir}
use Rattle.bc_mir.specs.Typing.{header_fits, fits_at, first_unfit, HasNoMisfit}

pub test_passed : (b : Bool) (rest : Option Point) (p : Point) → cond b rest (Some p) ≡ None → (b ≡ true) × (rest ≡ None)
test_passed true rest p none = (refl, none)
test_passed false rest p none = cc

passed : (header : Bool) (point : Option Point) → cond header (option_map At point) (Some Header) ≡ None → point ≡ None
passed true None none = refl
passed true (Some point) none = cc
passed false point none = cc

-- if a unit has no misfit, no point is one
pub no_unfit : (mir : Mir) → HasNoMisfit mir → first_unfit mir mir.steps ≡ None
no_unfit mir = passed (header_fits mir) (first_unfit mir mir.steps)

-- if no point breaks a rule, each fits
pub fits_at-first_unfit : (mir : Mir) (steps : List Step) (i : ℕ) (step : Step) → first_unfit mir steps ≡ None → i < length steps → step ≡ get_or steps i step → fits_at mir step.instruction ≡ true
fits_at-first_unfit mir [] i step none below is = absurd (omega arith)
fits_at-first_unfit mir (first ∷ steps) zero step none below is =
    ap (λ s. fits_at mir s.instruction) is ∙ (test_passed (fits_at mir first.instruction) (first_unfit mir steps) first.point none).0
fits_at-first_unfit mir (first ∷ steps) (suc i) step none below is =
    fits_at-first_unfit mir steps i step (test_passed (fits_at mir first.instruction) (first_unfit mir steps) first.point none).1 (omega arith) is
