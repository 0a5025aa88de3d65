-- Marks of several lists, one after the other.
use Rattle.std.proofs.Common.{◌≡◌, ℕ, zero, suc, ◌+◌, ◌<◌, Bool, true, false, List, [], ◌∷◌, ◌++◌, length, take, get_or, refl, sym, ap, ◌∙◌, append_assoc, append-nil, arith, subst, map, cond, replicate}
use Rattle.std.specs.Prelude.{◌||◌, ◌==◌, nat_le}
use Rattle.std.specs.List.{flat_map, list_all, filter, range_with_len}
use Rattle.std.proofs.lemmas.List.FromFn.{filter_of_map_range_with_len_more}
use Rattle.std.proofs.lemmas.List.Folds.{list_any-append}
use Rattle.std.proofs.lemmas.List.{get_or-replicate}
use Rattle.std.proofs.lemmas.Bool.{le-leb, and_from, and_parts}
use Rattle.bc_syntax.specs.Children.{AreMarked, is_among}

or_assoc : (a b c : Bool) → ((a || b) || c) ≡ (a || (b || c))
or_assoc true b c = refl
or_assoc false b c = refl

pub marked_both : (a b c : List Bool) (xs ys : List ℕ) → AreMarked a xs b → AreMarked b ys c → AreMarked a (xs ++ ys) c
marked_both a b c xs ys p q k below =
    q k below ∙ ap (λ t. t || is_among ys k) (p k below) ∙ or_assoc (get_or a k false) (is_among xs k) (is_among ys k)
    ∙ ap (λ t. get_or a k false || t) (sym (list_any-append (λ other. other == k) xs ys))

module _ {A : Type 0} (item : A → List ℕ) where
  one_more_item : (xs : List A) (i : ℕ) (d : A) → i < length xs → flat_map item (take (i + 1) xs) ≡ flat_map item (take i xs) ++ item (get_or xs i d)
  one_more_item [] i d below = absurd (omega arith)
  one_more_item (x ∷ xs) zero d below = append-nil (item x)
  one_more_item (x ∷ xs) (suc i) d below =
      let turn : suc i + 1 ≡ suc (i + 1) = omega arith in
      let less : i < length xs = omega (arith, below) in
      ap (λ k. flat_map item (take k (x ∷ xs))) turn ∙ ap (λ l. item x ++ l) (one_more_item xs i d less) ∙ sym (append_assoc (item x) (flat_map item (take i xs)) (item (get_or xs i d)))

  pub marked_one_more : (a b c : List Bool) (xs : List A) (i : ℕ) (d x : A) → i < length xs → x ≡ get_or xs i d → AreMarked a (flat_map item (take i xs)) b → AreMarked b (item x) c → AreMarked a (flat_map item (take (i + 1) xs)) c
  marked_one_more a b c xs i d x below is p q =
      subst (λ (l : List ℕ). AreMarked a l c) (sym (one_more_item xs i d below)) (marked_both a b c (flat_map item (take i xs)) (item (get_or xs i d)) p (subst (λ (y : A). AreMarked b (item y) c) is q))

-- the marks, if none was set before
pub marked_from_none : (b : List Bool) (xs : List ℕ) → AreMarked (replicate 64 false) xs b → (k : ℕ) → k < 64 → get_or b k false ≡ is_among xs k
marked_from_none b xs p k below = p k below ∙ ap (λ t. t || is_among xs k) (get_or-replicate 64 k false false below)

-- ---- numbers that pass a test

same_map : (xs : List ℕ) → map (λ x. x) xs ≡ xs
same_map [] = refl
same_map (x ∷ xs) = ap (λ (l : List ℕ). x ∷ l) (same_map xs)

one_more_number : (p : ℕ → Bool) (n : ℕ) → filter p (range_with_len 0 (n + 1)) ≡ filter p (range_with_len 0 n) ++ cond (p n) (n ∷ []) []
one_more_number p n =
    let here : 0 + n ≡ n = omega arith in
    ap (λ (l : List ℕ). filter p l) (sym (same_map (range_with_len 0 (n + 1)))) ∙ filter_of_map_range_with_len_more p (λ x. x) 0 n n here
    ∙ ap (λ (l : List ℕ). filter p l ++ cond (p n) (n ∷ []) []) (same_map (range_with_len 0 n))

pub next_number : (p : ℕ → Bool) (n : ℕ) (found : List ℕ) (passes : Bool) → found ≡ filter p (range_with_len 0 n) → passes ≡ p n → found ++ cond passes (n ∷ []) [] ≡ filter p (range_with_len 0 (n + 1))
next_number p n found passes is same =
    ap (λ (l : List ℕ). l ++ cond passes (n ∷ []) []) is ∙ ap (λ t. filter p (range_with_len 0 n) ++ cond t (n ∷ []) []) same ∙ sym (one_more_number p n)

abbrev small : ℕ → Bool
small number = nat_le number 63

pub next_small : (n : ℕ) (passes : Bool) (found : List ℕ) → n < 64 → list_all small found ≡ true → list_all small (found ++ cond passes (n ∷ []) []) ≡ true
next_small n true [] below h = and_from (small n) true (le-leb n 63 (omega (arith, below))) refl
next_small n false [] below h = refl
next_small n passes (x ∷ xs) below h =
    let p = and_parts (small x) (list_all small xs) h in
    and_from (small x) (list_all small (xs ++ cond passes (n ∷ []) [])) p.0 (next_small n passes xs below p.1)
