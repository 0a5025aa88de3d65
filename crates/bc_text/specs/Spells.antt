-- Which texts spell a value.
use Rattle.std.specs.Prelude.{◌≡◌, ℕ, ◌≤◌, List, [], ◌∷◌, ◌++◌, length, map}
use Rattle.bc_syntax.specs.declared.syntax.Body.{Body}
use Rattle.bc_syntax.specs.declared.syntax.Declaration.{Declaration}
use Rattle.bc_syntax.specs.Token.{Token, End}
use Rattle.bc_syntax.specs.Spelling.{unit, types}
use Rattle.bc_tokens.specs.Token.{Placed, tokens}

-- the bytes are at most 1,048,576, and their tokens are these
abbrev pub AreSpelled : List ℕ → List Token → Type 0
AreSpelled bytes found = (length bytes ≤ 1048576) × (map (λ (t : Placed). t.token) (tokens 0 0 bytes) ≡ found ++ End ∷ [])

-- the bytes spell this unit
abbrev pub Spells : List ℕ → Body → Type 0
Spells bytes u = AreSpelled bytes (unit u)

-- the bytes spell these declarations
abbrev pub SpellsTypes : List ℕ → List Declaration → Type 0
SpellsTypes bytes ds = AreSpelled bytes (types ds)
