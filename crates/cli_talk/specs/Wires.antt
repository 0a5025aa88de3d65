-- Lists that grow, if they are known.
use Rattle.std.specs.Prelude.{◌≡◌, List, [], ◌∷◌, ◌++◌, Option, Some, None, ⊤}

-- a list grows by one item, if it is known
abbrev pub Takes : {X : Type 0} → Option (List X) → Option (List X) → X → Type 0
Takes None new x = ⊤
Takes (Some xs) None x = ⊥
Takes (Some xs) (Some ys) x = ys ≡ xs ++ x ∷ []

-- a list grows by these items, if it is known
abbrev pub TakesAll : {X : Type 0} → Option (List X) → Option (List X) → List X → Type 0
TakesAll None new xs = ⊤
TakesAll (Some old) None xs = ⊥
TakesAll (Some old) (Some new) xs = new ≡ old ++ xs
