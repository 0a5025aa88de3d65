use Rattle.std.proofs.Common.{◌≡◌, Bool, true, false, cond, eqb, Option, None, is_some, List, [], ◌∷◌, refl, ap, ◌∙◌}
use Rattle.std.proofs.lemmas.Bool.{eqb-true}
use Rattle.bc_syntax.specs.declared.syntax.Projection.{Projection}
use Rattle.bc_syntax.specs.declared.syntax.Projection.TheVariants.{Deref, Field}
use Rattle.bc_syntax.specs.declared.syntax.Place.{Place}
use Rattle.bc_points.specs.Prefixes.{same_projection, rest_after, is_prefix}

is_some-allowed : {A : Type 0} (test : Bool) (value : Option A) → is_some (cond test value None) ≡ true → (test ≡ true) × (is_some value ≡ true)
is_some-allowed true value some = (refl, some)
is_some-allowed false value some = cc

same_projection-chain : (a b c : Projection) → same_projection a b ≡ true → same_projection b c ≡ true → same_projection a c ≡ true
same_projection-chain Deref Deref c first second = second
same_projection-chain Deref (Field k) c first second = cc
same_projection-chain (Field j) Deref c first second = cc
same_projection-chain (Field j) (Field k) Deref first second = cc
same_projection-chain (Field j) (Field k) (Field m) first second = ap (λ n. eqb n m) (eqb-true j k first) ∙ second

rest_after-chain : (a b c : List Projection) → is_some (rest_after a b) ≡ true → is_some (rest_after b c) ≡ true → is_some (rest_after a c) ≡ true
rest_after-chain [] b c first second = refl
rest_after-chain (x ∷ a) [] c first second = cc
rest_after-chain (x ∷ a) (y ∷ b) [] first second = cc
rest_after-chain (x ∷ a) (y ∷ b) (z ∷ c) first second =
    let one = is_some-allowed (same_projection x y) (rest_after a b) first in
    let two = is_some-allowed (same_projection y z) (rest_after b c) second in
    ap (λ same. is_some (cond same (rest_after a c) None)) (same_projection-chain x y z one.0 two.0) ∙ rest_after-chain a b c one.1 two.1

-- a prefix of a prefix is a prefix
pub is_prefix-chain : (first second third : Place) → is_prefix first second ≡ true → is_prefix second third ≡ true → is_prefix first third ≡ true
is_prefix-chain first second third a b =
    let one = is_some-allowed (eqb first.local second.local) (rest_after first.projections second.projections) a in
    let two = is_some-allowed (eqb second.local third.local) (rest_after second.projections third.projections) b in
    let same : eqb first.local third.local ≡ true = ap (λ n. eqb n third.local) (eqb-true first.local second.local one.0) ∙ two.0 in
    ap (λ t. is_some (cond t (rest_after first.projections third.projections) None)) same
    ∙ rest_after-chain first.projections second.projections third.projections one.1 two.1
