-- Arguments for the regions of a declaration; `'static` is the first.
use Rattle.std.proofs.Common.{◌≡◌, ℕ, zero, suc, ◌-◌, ◌<◌, ◌≤◌, List, ◌∷◌, length, get_or, refl, sym, ap, arith}
use Rattle.std.specs.Prelude.{slice_get, unwrap_or}
use Rattle.std.specs.List.{Contains}
use Rattle.std.proofs.lemmas.Option.{slice_get_past, slice_get_read}

-- an argument is one of them
pub is-given : {A : Type 0} (first : A) (arguments : List A) (argument : A) (i : ℕ) → i < length arguments → argument ≡ get_or arguments i argument → Contains (first ∷ arguments) argument
is-given first arguments argument i below is = (suc i, omega (arith, below), sym is)

-- the argument for a number
pub one-given : {A : Type 0} (first : A) (arguments : List A) (argument : A) (n : ℕ) → (n ≡ 0 → ⊥) → n - 1 < length arguments → argument ≡ get_or arguments (n - 1) argument → argument ≡ unwrap_or (slice_get (first ∷ arguments) n) first
one-given first arguments argument zero some below is = absurd (some refl)
one-given first arguments argument (suc m) some below is =
    let same : suc m - 1 ≡ m = omega arith in
    sym (ap (λ o. unwrap_or o first) (slice_get_read arguments (length arguments) m argument refl (omega (arith, below)) (rw same at is)))

-- past the last argument there is none
pub none-given : {A : Type 0} (first : A) (arguments : List A) (n : ℕ) → length arguments ≤ n - 1 → first ≡ unwrap_or (slice_get (first ∷ arguments) n) first
none-given first arguments zero past = refl
none-given first arguments (suc m) past = sym (ap (λ o. unwrap_or o first) (slice_get_past arguments m (omega (arith, past))))
