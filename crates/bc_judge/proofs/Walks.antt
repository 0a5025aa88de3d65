-- A walk over a list that skips elements which give nothing.
use Rattle.std.proofs.Common.{◌≡◌, ℕ, zero, suc, ◌+◌, ◌-◌, ◌<◌, ◌≤◌, inl, inr, List, [], ◌∷◌, ◌++◌, length, get_or, drop, refl, sym, ap, ◌∙◌, append_assoc, append-nil, arith, Some}
use Rattle.std.specs.Prelude.{slice_get}
use Rattle.std.specs.List.{flat_map, enumerate_from}
use Rattle.std.proofs.Math.Seq.{drop-cons}
use Rattle.std.proofs.lemmas.List.{drop_all}
use Rattle.std.proofs.lemmas.Option.{slice_get_within, slice_get_cases, slice_get_read, get_or_from_slice_get}

-- what the elements from number n on give
abbrev pub from_on : {X Y : Type 0} → (ℕ × X → List Y) → List X → ℕ → List Y
from_on f xs n = flat_map f (enumerate_from n (drop n xs))

-- element n, and what comes after it
pub at_element : {X Y : Type 0} (f : ℕ × X → List Y) (xs : List X) (n : ℕ) (x : X) → slice_get xs n ≡ Some x → from_on f xs n ≡ f (n, x) ++ from_on f xs (n + 1)
at_element f xs n x is =
    let within : n < length xs = slice_get_within xs n x is in
    let next : suc n ≡ n + 1 = omega arith in
    let split : drop n xs ≡ x ∷ drop (n + 1) xs =
    drop-cons xs n x within ∙ ap (λ v. v ∷ drop (suc n) xs) (get_or_from_slice_get xs n x x is) ∙ ap (λ k. x ∷ drop k xs) next in
    ap (λ ys. flat_map f (enumerate_from n ys)) split

past_end : {X Y : Type 0} (f : ℕ × X → List Y) (xs : List X) (n : ℕ) → length xs ≤ n → from_on f xs n ≡ []
past_end f xs n past = ap (λ ys. flat_map f (enumerate_from n ys)) (drop_all n xs past)

-- one element that gives nothing
pass_one : {X Y : Type 0} (f : ℕ × X → List Y) (xs : List X) (n : ℕ) → ((x : X) → slice_get xs n ≡ Some x → f (n, x) ≡ []) → from_on f xs n ≡ from_on f xs (n + 1)
pass_one f xs n none = elim ((slice_get_cases xs n).1) [
  | inl here ↦ at_element f xs n here.0 here.2 ∙ ap (λ ys. ys ++ from_on f xs (n + 1)) (none here.0 here.2)
  | inr past ↦ let low : length xs ≤ n = past.0 in past_end f xs n low ∙ sym (past_end f xs (n + 1) (omega arith))
]

pass_some : {X Y : Type 0} (f : ℕ × X → List Y) (xs : List X) (k n : ℕ) → ((i : ℕ) (x : X) → n ≤ i → i < n + k → slice_get xs i ≡ Some x → f (i, x) ≡ []) → from_on f xs n ≡ from_on f xs (n + k)
pass_some f xs zero n none = ap (from_on f xs) (omega arith)
pass_some f xs (suc k) n none =
    pass_one f xs n (λ x is. none n x (omega arith) (omega arith) is)
    ∙ pass_some f xs k (n + 1) (λ i x low high is. none i x (omega arith) (omega arith) is)
    ∙ ap (from_on f xs) (omega arith)

-- the elements from n to m give nothing
pub pass : {X Y : Type 0} (f : ℕ × X → List Y) (xs : List X) (n m : ℕ) → n ≤ m → ((i : ℕ) (x : X) → n ≤ i → i < m → slice_get xs i ≡ Some x → f (i, x) ≡ []) → from_on f xs n ≡ from_on f xs m
pass f xs n m onward none =
    let whole : n + (m - n) ≡ m = omega arith in
    pass_some f xs (m - n) n (λ i x low high is. none i x low (omega arith) is) ∙ ap (from_on f xs) whole

-- a list of elements that give nothing
pub nothing : {X Y : Type 0} (f : ℕ × X → List Y) (n : ℕ) (xs : List X) → ((i : ℕ) (x : X) → n ≤ i → f (i, x) ≡ []) → flat_map f (enumerate_from n xs) ≡ []
nothing f n [] none = refl
nothing f n (x ∷ xs) none =
    ap (λ ys. ys ++ flat_map f (enumerate_from (n + 1) xs)) (none n x (omega arith)) ∙ nothing f (n + 1) xs (λ i y low. none i y (omega arith))

-- the elements from n on give nothing
pub nothing_on : {X Y : Type 0} (f : ℕ × X → List Y) (xs : List X) (n : ℕ) → ((i : ℕ) (x : X) → n ≤ i → slice_get xs i ≡ Some x → f (i, x) ≡ []) → from_on f xs n ≡ []
nothing_on f xs n none =
    let ahead : n ≤ n + length xs = omega arith in
    let past : length xs ≤ n + length xs = omega arith in
    pass f xs n (n + length xs) ahead (λ i x low high is. none i x low is) ∙ past_end f xs (n + length xs) past

-- a turn: the elements from n on give nothing before m, and what m gives was appended
pub walk-turn : {X Y : Type 0} (f : ℕ × X → List Y) (xs : List X) (items new whole : List Y) (n m : ℕ) (x : X) → n ≤ m → ((i : ℕ) (y : X) → n ≤ i → i < m → slice_get xs i ≡ Some y → f (i, y) ≡ []) →
    slice_get xs m ≡ Some x → new ≡ items ++ f (m, x) → items ++ from_on f xs n ≡ whole → new ++ from_on f xs (m + 1) ≡ whole
walk-turn f xs items new whole n m x onward none is added before =
    ap (λ ys. ys ++ from_on f xs (m + 1)) added ∙ append_assoc items (f (m, x)) (from_on f xs (m + 1))
    ∙ ap (λ ys. items ++ ys) (sym (pass f xs n m onward none ∙ at_element f xs m x is)) ∙ before

-- the end: no element from n on gives anything
pub walk-end : {X Y : Type 0} (f : ℕ × X → List Y) (xs : List X) (items whole : List Y) (n : ℕ) → ((i : ℕ) (y : X) → n ≤ i → slice_get xs i ≡ Some y → f (i, y) ≡ []) → items ++ from_on f xs n ≡ whole → items ≡ whole
walk-end f xs items whole n none before = sym (append-nil items) ∙ ap (λ ys. items ++ ys) (sym (nothing_on f xs n none)) ∙ before

-- the end: no element from n on gives anything before m, and there is no element m
pub walk-past : {X Y : Type 0} (f : ℕ × X → List Y) (xs : List X) (items whole : List Y) (n m : ℕ) → n ≤ m → ((i : ℕ) (y : X) → n ≤ i → i < m → slice_get xs i ≡ Some y → f (i, y) ≡ []) →
    length xs ≤ m → items ++ from_on f xs n ≡ whole → items ≡ whole
walk-past f xs items whole n m onward none past before =
    sym (append-nil items) ∙ ap (λ ys. items ++ ys) (sym (pass f xs n m onward none ∙ past_end f xs m past)) ∙ before

-- a turn of a loop over every element, by its number
pub each-turn : {X Y : Type 0} (f : ℕ × X → List Y) (xs : List X) (items new whole : List Y) (n : ℕ) (x : X) → n < length xs → x ≡ get_or xs n x → new ≡ items ++ f (n, x) →
    items ++ from_on f xs n ≡ whole → new ++ from_on f xs (n + 1) ≡ whole
each-turn f xs items new whole n x within is added before =
    ap (λ ys. ys ++ from_on f xs (n + 1)) added ∙ append_assoc items (f (n, x)) (from_on f xs (n + 1))
    ∙ ap (λ ys. items ++ ys) (sym (at_element f xs n x (slice_get_read xs (length xs) n x refl within is))) ∙ before

-- and its end
pub each-end : {X Y : Type 0} (f : ℕ × X → List Y) (xs : List X) (items whole : List Y) (n : ℕ) → length xs ≤ n → items ++ from_on f xs n ≡ whole → items ≡ whole
each-end f xs items whole n past before = sym (append-nil items) ∙ ap (λ ys. items ++ ys) (sym (past_end f xs n past)) ∙ before
