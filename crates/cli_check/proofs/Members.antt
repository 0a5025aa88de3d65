-- What short lists contain.
use Rattle.std.proofs.Common.{◌≡◌, List, [], ◌∷◌, inl, inr, arith}
use Rattle.std.specs.List.{Contains}
use Rattle.std.proofs.lemmas.List.Elements.{Contains-push, Contains-push_cases, Contains-append_left, Contains-append_right}

pub Contains-one : {X : Type 0} (y x : X) → Contains (y ∷ []) x → y ≡ x
Contains-one y x h = elim (Contains-push_cases [] y x h) [
  | inl none ↦ absurd (omega (arith, none.1))
  | inr same ↦ same
]

pub Contains-head : {X : Type 0} (x : X) (xs : List X) → Contains (x ∷ xs) x
Contains-head x xs = Contains-append_left (x ∷ []) xs x (Contains-push [] x)

pub Contains-later : {X : Type 0} (y : X) (xs : List X) (x : X) → Contains xs x → Contains (y ∷ xs) x
Contains-later y xs x h = Contains-append_right (y ∷ []) xs x h
