-- The text of a JSON value.
use Rattle.std.specs.Prelude.{◌≡◌, ℕ, List, [], ◌∷◌, ◌++◌, false, codes, flat_map}
use Rattle.serde_json.specs.View.{view}
use Rattle.serde_json.specs.Written.{has_float, compact_text}
use Rattle.serde_json.specs.declared.value.Value.{Value}

-- a value has no float, and this is its compact text
abbrev pub HasText : Value → List ℕ → Type 0
HasText value text = (has_float (view value) ≡ false) × (compact_text (view value) ≡ text)

-- texts, with a comma between each two
abbrev pub separated : List (List ℕ) → List ℕ
separated [] = []
separated (text ∷ texts) = text ++ flat_map (λ later. codes "," ++ later) texts

-- the array of these texts
abbrev pub array_text : List (List ℕ) → List ℕ
array_text texts = codes "[" ++ separated texts ++ codes "]"
