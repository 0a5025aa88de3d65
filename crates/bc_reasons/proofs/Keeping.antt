-- Loops that append what a function gives for each item that passes a test.
use Rattle.std.proofs.Common.{◌≡◌, ℕ, ◌+◌, ◌<◌, Bool, true, false, cond, List, [], ◌∷◌, ◌++◌, length, map, filter, get_or, drop, sym, ap, ◌∙◌}
use Rattle.std.proofs.lemmas.List.{at_drop_more}
use Rattle.bc_types.proofs.Appending.{appended-turn}

module _ {X Y : Type 0} (f : X → Y) (test : X → Bool) where
  -- what is given for the items of a list
  abbrev pub kept_of : List X → List Y
  kept_of xs = map f (filter test xs)

  module _ (xs : List X) (i : ℕ) (d : X) (within : i < length xs) where
    at_item : (passes : Bool) → test (get_or xs i d) ≡ passes → kept_of (drop i xs) ≡ map f (cond passes (get_or xs i d ∷ filter test (drop (i + 1) xs)) (filter test (drop (i + 1) xs)))
    at_item passes is =
        at_drop_more kept_of xs i d within
        ∙ ap (λ b. map f (cond b (get_or xs i d ∷ filter test (drop (i + 1) xs)) (filter test (drop (i + 1) xs)))) is

    -- an item that passes
    pub given-turn : (items new whole : List Y) → test (get_or xs i d) ≡ true → new ≡ items ++ f (get_or xs i d) ∷ [] → items ++ kept_of (drop i xs) ≡ whole → new ++ kept_of (drop (i + 1) xs) ≡ whole
    given-turn items new whole passes grown before = appended-turn kept_of whole items xs i new (f (get_or xs i d) ∷ []) grown (at_item true passes) before

    -- an item that does not
    pub passed-turn : (items whole : List Y) → test (get_or xs i d) ≡ false → items ++ kept_of (drop i xs) ≡ whole → items ++ kept_of (drop (i + 1) xs) ≡ whole
    passed-turn items whole fails before = ap (λ l. items ++ l) (sym (at_item false fails)) ∙ before
