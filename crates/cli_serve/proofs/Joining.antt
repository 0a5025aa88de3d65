-- Sessions that come back one after another.
use Rattle.std.proofs.Common.{◌≡◌, ℕ, suc, ◌<◌, List, [], ◌∷◌, ◌++◌, length, length-append, get_or, Result, Ok, Err, true, false, sym, ap, ◌∙◌, subst, arith, inl, inr}
use Rattle.std.specs.Prelude.{IsOk, OnOk}
use Rattle.std.proofs.Math.Seq.{get_or-append_seam}
use Rattle.std.proofs.lemmas.Bool.{cases_lt}
use Rattle.std.proofs.lemmas.List.{get_or_append_left}
use Rattle.cli_serve.specs.declared.stop.ServeStop.{ServeStop}

-- what holds of each place holds of one more
pub each_more : {X : Type 0} (P : ℕ → X → Type 0) (xs ys : List X) (x : X) → ys ≡ xs ++ x ∷ [] → ((k : ℕ) (d : X) → k < length xs → P k (get_or xs k d)) → P (length xs) x → (k : ℕ) (d : X) → k < length ys → P k (get_or ys k d)
each_more {X} P xs ys x is before here k d below =
    let long = ap length is ∙ length-append xs (x ∷ []) in
    let small : k < suc (length xs) = omega (arith, below, long) in
    elim (cases_lt k (length xs)) [
      | inl less ↦ subst (P k) (sym (ap (λ (l : List X). get_or l k d) is ∙ get_or_append_left xs (x ∷ []) d k less)) (before k d less)
      | inr most ↦ (let last : length xs ≡ k = omega (arith, most, small) in
          subst (λ (n : ℕ). P n (get_or ys n d)) last (subst (P (length xs)) (sym (ap (λ (l : List X). get_or l (length xs) d) is ∙ get_or-append_seam xs x [] d)) here))
    ]

-- two that both have to be well
pub both_well : (before now both : Result Unit ServeStop) (P Q R : Type 0) → OnOk both (IsOk before) → OnOk both (IsOk now) → OnOk before P → OnOk now Q → (P → Q → R) → OnOk both R
both_well (Ok a) (Ok b) (Ok c) P Q R first second p q f = f p q
both_well (Ok a) (Err b) (Ok c) P Q R first second p q f = let e : false ≡ true = second in absurd cc
both_well (Err a) now (Ok c) P Q R first second p q f = let e : false ≡ true = first in absurd cc
both_well before now (Err c) P Q R first second p q f = tt

-- what holds of each place of two lists of one length holds of one more
pub each_pair_more : {X Y : Type 0} (P : ℕ → X → Y → Type 0) (xs xs' : List X) (ys ys' : List Y) (x : X) (y : Y) → xs' ≡ xs ++ x ∷ [] → ys' ≡ ys ++ y ∷ [] → length ys ≡ length xs
    → ((k : ℕ) (d : X) (e : Y) → k < length xs → P k (get_or xs k d) (get_or ys k e)) → P (length xs) x y → (k : ℕ) (d : X) (e : Y) → k < length xs' → P k (get_or xs' k d) (get_or ys' k e)
each_pair_more {X} {Y} P xs xs' ys ys' x y is is' same before here k d e below =
    each_more (λ (n : ℕ) (a : X). (e : Y) → P n a (get_or ys' n e)) xs xs' x is
    (λ j a less b. subst (P j (get_or xs j a)) (sym (ap (λ (l : List Y). get_or l j b) is' ∙ get_or_append_left ys (y ∷ []) b j (omega (arith, same, less)))) (before j a b less))
    (λ b. subst (P (length xs) x) (sym (ap (λ (l : List Y). get_or l (length xs) b) is' ∙ ap (λ (n : ℕ). get_or (ys ++ y ∷ []) n b) (sym same) ∙ get_or-append_seam ys y [] b)) here)
    k d below e
