-- Which tokens of a text begin points, found by the token before each.
use Rattle.std.specs.Prelude.{ℕ, Bool, true, false, not, ◌||◌, if◌then◌else◌, List, [], ◌∷◌, ◌++◌, is_some}
use Rattle.bc_syntax.specs.declared.symbol.Symbol.TheVariants.{Let, OpenBrace, CloseBrace, Semicolon}
use Rattle.bc_syntax.specs.declared.numbering.Numbering.TheVariants.{Label}
use Rattle.bc_syntax.specs.Token.{Token}
use Rattle.bc_tokens.specs.Token.{Placed, Tokens}
use Rattle.bc_tokens.specs.Parser.{is_fixed, number_in, is_end}

-- a point may begin after this token
abbrev pub opens_points : Token → Bool
opens_points token = is_fixed Semicolon token || is_fixed OpenBrace token

-- this token begins a point, if one may begin there: it is no `let`, no label and no `}`
abbrev pub begins_point : Token → Bool
begins_point token = not (is_fixed Let token || is_fixed CloseBrace token || is_some (number_in Label token))

-- the places, and that of this token if it begins a point
abbrev pub note : Bool → Placed → List ℕ → List ℕ
note false token found = found
note true token found = if begins_point token.token then found ++ token.at ∷ [] else found

-- the places, and those of the tokens before the end that begin points
abbrev pub noted : Bool → List ℕ → Tokens → List ℕ
noted opened found [] = found
noted opened found (t ∷ ts) = if is_end t.token then found else noted (opens_points t.token) (note opened t found) ts
