-- The tokens ahead of a cursor.
use Rattle.std.specs.Prelude.{ℕ, ◌+◌, ◌<◌, ◌^◌, List, [], ◌∷◌, length}
use Rattle.bc_tokens.specs.declared.token.Kind.{Kind}
use Rattle.bc_tokens.specs.declared.token.Kind.TheVariants as kinds
use Rattle.bc_tokens.specs.declared.cursor.Cursor.TheInside.{Inside}
use Rattle.bc_tokens.specs.Token.{Tokens, Keeps, placed, shown, tokens}

-- the tokens after one of this kind: none after the end
abbrev pub following : Kind → ℕ → List ℕ → Tokens
following kinds.End end rest = []
following (kinds.Fixed symbol) end rest = tokens 0 end rest
following (kinds.Numbered numbering) end rest = tokens 0 end rest
following kinds.Word end rest = tokens 0 end rest
following kinds.Region end rest = tokens 0 end rest
following kinds.NotAscii end rest = tokens 0 end rest
following kinds.Stray end rest = tokens 0 end rest

-- the tokens from the next one on
abbrev pub tokens_ahead : Inside → Tokens
tokens_ahead c = placed (shown c.token.kind c.token.text.now) c.at ∷ following c.token.kind c.end c.rest.now

-- the places of the rest are below 2^64
abbrev pub PlacesFit : Inside → Type 0
PlacesFit c = c.end + length c.rest.now < 2 ^ 64

-- the places fit, and the next token keeps its number
abbrev pub IsCursor : Inside → Type 0
IsCursor c = PlacesFit c × Keeps c.token.kind c.token.text.now c.token.number
