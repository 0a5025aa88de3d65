use Rattle.std.proofs.Common.{◌≡◌, ℕ, Bool, true, false, not, ◌&&◌, cond, Option, Some, None, option_and_then, List, [], ◌∷◌, ◌++◌, reverse, refl, sym, ap, ◌∙◌}
use Rattle.std.proofs.lemmas.Bool.{eqb-true, eq-eqb}
use Rattle.std.proofs.lemmas.List.{reverse-reverse}
use Rattle.std.specs.List.{Contains}
use Rattle.std.specs.Option.{option_map_or, option_to_list}
use Rattle.bc_syntax.specs.declared.syntax.Place.{Place}
use Rattle.bc_syntax.specs.declared.syntax.Reference.{Reference}
use Rattle.bc_syntax.specs.declared.syntax.Projection.{Projection}
use Rattle.bc_syntax.specs.declared.syntax.Projection.TheVariants.{Deref, Field}
use Rattle.bc_shapes.specs.Mutabilities.{is_mutable}
use Rattle.bc_bodies.specs.Places.{are_mutable}
use Rattle.bc_points.specs.Prefixes.{same_projection, rest_after}
use Rattle.bc_points_laws.specs.Supporters.{place_of, is_shared}
use Rattle.bc_flow.proofs.Membership.{Contains-nil}

same_projection-is : (a b : Projection) → same_projection a b ≡ true → a ≡ b
same_projection-is Deref Deref same = refl
same_projection-is Deref (Field k) same = cc
same_projection-is (Field j) Deref same = cc
same_projection-is (Field j) (Field k) same = ap Field (eqb-true j k same)

same_projection-self : (a : Projection) → same_projection a a ≡ true
same_projection-self Deref = refl
same_projection-self (Field k) = eq-eqb k k refl

pub allowed-some : {A : Type 0} (test : Bool) (value : Option A) (x : A) → cond test value None ≡ Some x → (test ≡ true) × (value ≡ Some x)
allowed-some true value x some = (refl, some)
allowed-some false value x some = cc

-- `rest_after` finds exactly what follows a beginning
pub rest_after-is : (beginning projections rest : List Projection) → rest_after beginning projections ≡ Some rest → projections ≡ beginning ++ rest
rest_after-is [] projections rest some = cc
rest_after-is (x ∷ beginning) [] rest some = cc
rest_after-is (x ∷ beginning) (y ∷ projections) rest some =
    let parts = allowed-some (same_projection x y) (rest_after beginning projections) rest some in
    ap (λ first. first ∷ projections) (sym (same_projection-is x y parts.0)) ∙ ap (λ more. x ∷ more) (rest_after-is beginning projections rest parts.1)

pub rest_after-append : (beginning rest : List Projection) → rest_after beginning (beginning ++ rest) ≡ Some rest
rest_after-append [] rest = refl
rest_after-append (x ∷ beginning) rest =
    ap (λ same. cond same (rest_after beginning (beginning ++ rest)) None) (same_projection-self x) ∙ rest_after-append beginning rest

not-not : (test : Bool) → (test && true) ≡ not (not test)
not-not true = refl
not-not false = refl

pub are_mutable-option : (found : Option Reference) → are_mutable (option_to_list found) ≡ not (is_shared found)
are_mutable-option None = refl
are_mutable-option (Some reference) = not-not (is_mutable reference.mutability)

pub goes-on : (shared : Bool) (place : Place) (places : List Place) → shared ≡ false → Contains places place → Contains (cond shared [] places) place
goes-on true place places same contains = cc
goes-on false place places same contains = contains

pub went-on : (shared : Bool) (place : Place) (places : List Place) → Contains (cond shared [] places) place → (shared ≡ false) × Contains places place
went-on true place places contains = absurd (Contains-nil place contains)
went-on false place places contains = (refl, contains)

pub map_or-true : {A : Type 0} (f : A → Bool) (value : Option A) → option_map_or f value false ≡ true → (x : A) × (value ≡ Some x) × (f x ≡ true)
map_or-true f None holds = cc
map_or-true f (Some x) holds = (x, refl, holds)

pub and_then-some : {A B : Type 0} (f : A → Option B) (value : Option A) (y : B) → option_and_then f value ≡ Some y → (x : A) × (value ≡ Some x)
and_then-some f None y some = cc
and_then-some f (Some x) y some = (x, refl)

-- reversing projections twice gives the same place
pub same-place : (local : ℕ) (place : Place) → local ≡ place.local → place_of local (reverse place.projections) ≡ place
same-place local place same =
    ap (λ n. place_of n (reverse place.projections)) same
    ∙ ap (λ projections. record { local = place.local; projections = projections }) (reverse-reverse place.projections)
