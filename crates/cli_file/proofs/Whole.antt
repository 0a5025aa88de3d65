-- An input that is read whole.
use Rattle.std.proofs.Common.{◌≡◌, ℕ, ◌≤◌, ◌+◌, List, [], ◌++◌, length, take, Option, Some, None, ap, ◌∙◌, arith}
use Rattle.std.specs.Prelude.{IfSome}
use Rattle.std.specs.Option.{option_map}
use Rattle.std.proofs.lemmas.List.{take_all, length-take}

-- what is read with a limit is everything, if it is shorter than the limit
pub whole : (limit : ℕ) (known : Option (List ℕ)) (new old : List ℕ) → IfSome (option_map (take (limit + 1)) known) (λ bytes. new ≡ old ++ bytes) → old ≡ [] → length new ≤ limit → IfSome known (λ bytes. new ≡ bytes)
whole limit None new old h e short = tt
whole limit (Some bytes) new old h e short =
    let same : new ≡ take (limit + 1) bytes = h ∙ ap (λ (xs : List ℕ). xs ++ take (limit + 1) bytes) e in
    same ∙ take_all (limit + 1) bytes (grind (arith, ap length same, length-take (limit + 1) bytes))
