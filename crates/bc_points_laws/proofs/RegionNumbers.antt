-- Regions and their numbers, back and forth.
use Rattle.std.proofs.Common.{◌≡◌, ℕ, ◌+◌, ◌-◌, ◌≤◌, true, false, cond, ltb, ap, refl, ◌∙◌, arith}
use Rattle.std.proofs.lemmas.Bool.{ltb-false, le-ltb}
use Rattle.bc_syntax.specs.declared.syntax.Region.{Region}
use Rattle.bc_syntax.specs.declared.syntax.Region.TheVariants.{Universal, Variable}
use Rattle.bc_syntax.specs.Fits.{region_fits}
use Rattle.bc_points.specs.Regions.{region_number, region_of_number}

pub number_of_region : (universals number : ℕ) → region_number universals (region_of_number universals number) ≡ number
number_of_region u n = elim (ltb n u) as (λ b. ltb n u ≡ b → region_number u (cond b (Universal n) (Variable (n - u))) ≡ n) [
  | true ↦ λ _. refl
  | false ↦ λ less. let le : u ≤ n = ltb-false n u less in omega (arith, le)
] refl

pub region_of_its_number : (universals : ℕ) (region : Region) → region_fits true universals region ≡ true → region_of_number universals (region_number universals region) ≡ region
region_of_its_number u (Universal n) fits = ap (λ b. cond b (Universal n) (Variable (n - u))) fits
region_of_its_number u (Variable v) fits =
    let le : u ≤ u + v = omega arith in
    let same : u + v - u ≡ v = omega arith in
    ap (λ b. cond b (Universal (u + v)) (Variable (u + v - u))) (le-ltb (u + v) u le) ∙ ap Variable same
