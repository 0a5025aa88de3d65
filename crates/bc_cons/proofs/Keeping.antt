-- Loops that keep the elements that pass a test.
use Rattle.std.proofs.Common.{◌≡◌, ℕ, ◌+◌, ◌<◌, Bool, true, false, cond, List, [], ◌∷◌, ◌++◌, filter, length, get_or, drop, sym, ap, ◌∙◌}
use Rattle.std.proofs.lemmas.List.{at_drop_more}
use Rattle.bc_types.proofs.Appending.{appended-turn}

module _ {A : Type 0} (test : A → Bool) (whole items : List A) (xs : List A) (i : ℕ) (d : A) (below : i < length xs) where
  turn : (passes : Bool) → test (get_or xs i d) ≡ passes → filter test (drop i xs) ≡ cond passes (get_or xs i d ∷ filter test (drop (i + 1) xs)) (filter test (drop (i + 1) xs))
  turn passes is =
      at_drop_more (filter test) xs i d below ∙ ap (λ b. cond b (get_or xs i d ∷ filter test (drop (i + 1) xs)) (filter test (drop (i + 1) xs))) is

  pub kept-turn : (new : List A) → new ≡ items ++ get_or xs i d ∷ [] → test (get_or xs i d) ≡ true → items ++ filter test (drop i xs) ≡ whole → new ++ filter test (drop (i + 1) xs) ≡ whole
  kept-turn new grown passes before = appended-turn (filter test) whole items xs i new (get_or xs i d ∷ []) grown (turn true passes) before

  pub left-turn : test (get_or xs i d) ≡ false → items ++ filter test (drop i xs) ≡ whole → items ++ filter test (drop (i + 1) xs) ≡ whole
  left-turn fails before = ap (λ l. items ++ l) (sym (turn false fails)) ∙ before
