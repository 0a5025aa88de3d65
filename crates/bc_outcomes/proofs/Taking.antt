-- Taking an item from the front of a list for each element of another list.
use Rattle.std.proofs.Common.{◌≡◌, ℕ, ◌+◌, ◌<◌, List, [], ◌∷◌, ◌++◌, length, get_or, drop, sym, ap, ◌∙◌, append_assoc}
use Rattle.std.specs.Prelude.{map}
use Rattle.std.proofs.lemmas.List.{at_drop_more, map-append}

-- one item more is taken, with its number
pub numbers_more : {A B C : Type 0} (f : A → C) (g : B → C) (taken : List A) (one : A) (xs : List B) (i : ℕ) (x : B) (whole : List C) → i < length xs → f one ≡ g (get_or xs i x)
    → map f taken ++ map g (drop i xs) ≡ whole → map f (taken ++ one ∷ []) ++ map g (drop (i + 1) xs) ≡ whole
numbers_more f g taken one xs i x whole within same before =
    ap (λ l. l ++ map g (drop (i + 1) xs)) (map-append f taken (one ∷ []))
    ∙ append_assoc (map f taken) (f one ∷ []) (map g (drop (i + 1) xs))
    ∙ ap (λ n. map f taken ++ n ∷ map g (drop (i + 1) xs)) same
    ∙ ap (λ l. map f taken ++ l) (sym (at_drop_more (map g) xs i x within))
    ∙ before

-- one item more is taken, and the others are left
pub rest_more : {A B : Type 0} (f : A → B) (taken : List A) (one : A) (whole old new : List B) → old ≡ f one ∷ new → whole ≡ map f taken ++ old → whole ≡ map f (taken ++ one ∷ []) ++ new
rest_more f taken one whole old new first before =
    before
    ∙ ap (λ l. map f taken ++ l) first
    ∙ sym (append_assoc (map f taken) (f one ∷ []) new)
    ∙ ap (λ l. l ++ new) (sym (map-append f taken (one ∷ [])))
