-- One turn of a loop that appends what a function gives for each item.
use Rattle.std.proofs.Common.{◌≡◌, ℕ, ◌+◌, ◌<◌, ◌≤◌, Bool, true, false, cond, List, [], ◌∷◌, ◌++◌, length, map, filter, get_or, drop, ap, sym, ◌∙◌, append_assoc, append-nil}
use Rattle.std.proofs.lemmas.List.{at_drop_more, drop_more, drop_all}

pub turn : {X Y : Type 0} (f : X → Y) (xs : List X) (i : ℕ) (d : X) (old new whole : List Y) → i < length xs → new ≡ old ++ f (get_or xs i d) ∷ [] →
    old ++ map f (drop i xs) ≡ whole → new ++ map f (drop (i + 1) xs) ≡ whole
turn {X} f xs i d old new whole within more before =
    let rest = map f (drop (i + 1) xs) in
    ap (λ front. front ++ rest) more ∙ append_assoc old (f (get_or xs i d) ∷ []) rest
    ∙ sym (ap (λ (zs : List X). old ++ map f zs) (drop_more xs i d within)) ∙ before

-- and the end of the loop
pub turned : {X Y : Type 0} (f : X → Y) (xs : List X) (i : ℕ) (old whole : List Y) → length xs ≤ i → old ++ map f (drop i xs) ≡ whole → old ≡ whole
turned {X} f xs i old whole past before =
    sym (append-nil old) ∙ sym (ap (λ (zs : List X). old ++ map f zs) (drop_all i xs past)) ∙ before

-- One turn of a loop that appends the items that pass a test.
module _ {X : Type 0} (test : X → Bool) (xs : List X) (i : ℕ) (d : X) (old whole : List X) (within : i < length xs) where
  at_item : (passes : Bool) → test (get_or xs i d) ≡ passes → filter test (drop i xs) ≡ cond passes (get_or xs i d ∷ filter test (drop (i + 1) xs)) (filter test (drop (i + 1) xs))
  at_item passes is =
      at_drop_more (filter test) xs i d within
      ∙ ap (λ b. cond b (get_or xs i d ∷ filter test (drop (i + 1) xs)) (filter test (drop (i + 1) xs))) is

  pub left : test (get_or xs i d) ≡ false → old ++ filter test (drop i xs) ≡ whole → old ++ filter test (drop (i + 1) xs) ≡ whole
  left fails before = ap (λ l. old ++ l) (sym (at_item false fails)) ∙ before

  pub kept : (new : List X) → test (get_or xs i d) ≡ true → new ≡ old ++ get_or xs i d ∷ [] → old ++ filter test (drop i xs) ≡ whole → new ++ filter test (drop (i + 1) xs) ≡ whole
  kept new passes grown before =
      ap (λ l. l ++ filter test (drop (i + 1) xs)) grown
      ∙ append_assoc old (get_or xs i d ∷ []) (filter test (drop (i + 1) xs))
      ∙ ap (λ l. old ++ l) (sym (at_item true passes)) ∙ before
