-- What is valid without region variables is valid with them.
use Rattle.std.proofs.Common.{◌≡◌, ℕ, Bool, true, false, ◌&&◌, nat_le, ◌||◌, List, [], ◌∷◌, length, refl, ap}
use Rattle.std.specs.List.{list_all}
use Rattle.std.proofs.lemmas.Bool.{and_from, and_parts}
use Rattle.bc_syntax.specs.declared.syntax.Region.{Region}
use Rattle.bc_syntax.specs.declared.syntax.Region.TheVariants.{Universal, Variable}
use Rattle.bc_syntax.specs.declared.syntax.Base.{Base}
use Rattle.bc_syntax.specs.declared.syntax.Base.TheVariants.{Int, Struct, Closure}
use Rattle.bc_syntax.specs.declared.syntax.Ty.{Ty}
use Rattle.bc_syntax.specs.Fits.{item_fits, region_fits, regions_fit, reference_fits, base_fits, ty_fits, let_fits, whole_closure_fits}

region-wider : (n : ℕ) (region : Region) → region_fits false n region ≡ true → region_fits true n region ≡ true
region-wider n (Universal number) fits = fits
region-wider n (Variable number) fits = cc

list-wider : {A : Type 0} (P Q : A → Bool) → ((x : A) → P x ≡ true → Q x ≡ true) → (xs : List A) → list_all P xs ≡ true → list_all Q xs ≡ true
list-wider P Q wider [] all = refl
list-wider P Q wider (x ∷ xs) all =
    let parts = and_parts (P x) (list_all P xs) all in
    and_from _ _ (wider x parts.0) (list-wider P Q wider xs parts.1)

base-wider : (n : ℕ) (base : Base) → base_fits false n base ≡ true → base_fits true n base ≡ true
base-wider n Int fits = refl
base-wider n (Struct instance) fits =
    let outer = and_parts (item_fits instance.name) (regions_fit false n instance.regions) fits in
    let inner = and_parts (list_all (region_fits false n) instance.regions) (nat_le (length instance.regions) 15) outer.1 in
    and_from _ _ outer.0 (and_from _ _ (list-wider (region_fits false n) (region_fits true n) (region-wider n) instance.regions inner.0) inner.1)
base-wider n (Closure closure) fits = fits

ty-wider : (n : ℕ) (ty : Ty) → ty_fits false n ty ≡ true → ty_fits true n ty ≡ true
ty-wider n ty fits =
    let outer = and_parts (list_all (reference_fits false n) ty.references && nat_le (length ty.references) 7) (base_fits false n ty.base) fits in
    let inner = and_parts (list_all (reference_fits false n) ty.references) (nat_le (length ty.references) 7) outer.0 in
    let references = list-wider (reference_fits false n) (reference_fits true n) (λ reference. region-wider n reference.region) ty.references inner.0 in
    and_from _ _ (and_from _ _ references inner.1) (base-wider n ty.base outer.1)

-- a type that a header may have, a `let` local may have
pub let-wider : (n : ℕ) (ty : Ty) → ty_fits false n ty ≡ true → let_fits n ty ≡ true
let-wider n ty fits = ap (λ b. b || whole_closure_fits n ty.references ty.base) (ty-wider n ty fits)

pub types-wider : (n : ℕ) (types : List Ty) → list_all (ty_fits false n) types ≡ true → list_all (let_fits n) types ≡ true
types-wider n = list-wider (ty_fits false n) (let_fits n) (let-wider n)
