-- Loops that append a list for each element, which may depend on its number.
use Rattle.std.proofs.Common.{◌≡◌, ℕ, ◌+◌, ◌≤◌, List, [], ◌++◌, length, drop, sym, ap, ◌∙◌, append_assoc, append-nil}
use Rattle.std.proofs.lemmas.List.{at_drop_all}

module _ {A B : Type 0} (each : ℕ → List A → List B) (whole items : List B) (xs : List A) (i : ℕ) where
  -- a turn appends what its element gives
  pub appended-turn : (new more : List B) → new ≡ items ++ more → each i (drop i xs) ≡ more ++ each (i + 1) (drop (i + 1) xs) → items ++ each i (drop i xs) ≡ whole → new ++ each (i + 1) (drop (i + 1) xs) ≡ whole
  appended-turn new more grown one before =
      ap (λ l. l ++ each (i + 1) (drop (i + 1) xs)) grown
      ∙ append_assoc items more (each (i + 1) (drop (i + 1) xs))
      ∙ ap (λ l. items ++ l) (sym one)
      ∙ before

  -- after the last turn all is appended
  pub appended-all : length xs ≤ i → each i [] ≡ [] → items ++ each i (drop i xs) ≡ whole → items ≡ whole
  appended-all past none before =
      sym (append-nil items) ∙ ap (λ l. items ++ l) (sym none ∙ sym (at_drop_all (each i) xs i past)) ∙ before
