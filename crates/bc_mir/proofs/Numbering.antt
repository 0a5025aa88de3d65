-- Loops that append a list for each element and its number.
use Rattle.std.proofs.Common.{◌≡◌, ℕ, ◌+◌, ◌<◌, ◌≤◌, List, ◌++◌, length, get_or, drop, sym, ap, ◌∙◌, append_assoc, append-nil}
use Rattle.std.specs.List.{flat_map, enumerate_from}
use Rattle.std.proofs.lemmas.List.{at_drop_more, at_drop_all}

abbrev pub from_number : {A B : Type 0} → (ℕ × A → List B) → ℕ → List A → List B
from_number each n xs = flat_map each (enumerate_from n xs)

module _ {A B : Type 0} (each : ℕ × A → List B) (whole items : List B) (xs : List A) (i : ℕ) where
  -- a turn appends what its element gives
  pub numbered-turn : (x : A) (new : List B) → i < length xs → x ≡ get_or xs i x → new ≡ items ++ each (i, x) → items ++ from_number each i (drop i xs) ≡ whole → new ++ from_number each (i + 1) (drop (i + 1) xs) ≡ whole
  numbered-turn x new below is grown before =
      let rest : List B = from_number each (i + 1) (drop (i + 1) xs) in
      ap (λ l. l ++ rest) grown
      ∙ append_assoc items (each (i, x)) rest
      ∙ ap (λ l. items ++ l) (sym (at_drop_more (from_number each i) xs i x below ∙ ap (λ y. each (i, y) ++ rest) (sym is)))
      ∙ before

  -- after the last turn all is appended
  pub numbered-all : length xs ≤ i → items ++ from_number each i (drop i xs) ≡ whole → items ≡ whole
  numbered-all past before = sym (append-nil items) ∙ ap (λ l. items ++ l) (sym (at_drop_all (from_number each i) xs i past)) ∙ before
