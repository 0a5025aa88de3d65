-- Loops that append a list for each element.
use Rattle.std.proofs.Common.{◌≡◌, ℕ, ◌+◌, ◌≤◌, List, [], ◌++◌, length, drop, sym, ap, ◌∙◌, append_assoc, append-nil}
use Rattle.std.proofs.lemmas.List.{at_drop_all}

module _ {A B : Type 0} (each : List A → List B) (whole items : List B) (xs : List A) (i : ℕ) where
  -- a turn appends what its element gives
  pub appended-turn : (new more : List B) → new ≡ items ++ more → each (drop i xs) ≡ more ++ each (drop (i + 1) xs) → items ++ each (drop i xs) ≡ whole → new ++ each (drop (i + 1) xs) ≡ whole
  appended-turn new more grown one before =
      ap (λ l. l ++ each (drop (i + 1) xs)) grown
      ∙ append_assoc items more (each (drop (i + 1) xs))
      ∙ ap (λ l. items ++ l) (sym one)
      ∙ before

  -- after the last turn all is appended
  pub appended-all : length xs ≤ i → each [] ≡ [] → items ++ each (drop i xs) ≡ whole → items ≡ whole
  appended-all past none before =
      sym (append-nil items) ∙ ap (λ l. items ++ l) (sym none ∙ sym (at_drop_all each xs i past)) ∙ before
