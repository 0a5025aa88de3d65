-- Where the points of a unit begin in its text.
use Rattle.std.specs.Prelude.{ℕ, ◌+◌, List, [], ◌∷◌, ◌++◌, length, map, drop}
use Rattle.bc_syntax.specs.declared.symbol.Symbol.TheVariants.{OpenBrace}
use Rattle.bc_syntax.specs.declared.syntax.RegionName.{RegionName}
use Rattle.bc_syntax.specs.declared.syntax.Statement.{Statement}
use Rattle.bc_syntax.specs.declared.syntax.Block.{Block}
use Rattle.bc_syntax.specs.declared.syntax.Body.{Body}
use Rattle.bc_syntax.specs.Locals.{first_let}
use Rattle.bc_syntax.specs.Token.{Token}
use Rattle.bc_syntax.specs.Spelling.{symbol, line, label, block, lets, header}
use Rattle.bc_tokens.specs.Token.{Tokens, tokens}
use Rattle.bc_tokens.specs.Parser.{position}

-- how many tokens come before each point of a block, the terminator last, if `count` come before the first point
abbrev pub before_points : List RegionName → ℕ → List Statement → List ℕ
before_points regions count [] = count ∷ []
before_points regions count (st ∷ sts) = count ∷ before_points regions (count + length (line regions st)) sts

-- how many tokens come before each point of these blocks, if the first block has the given number and `count` tokens come before it
abbrev pub before_blocks : List RegionName → (count number : ℕ) → List Block → List ℕ
before_blocks regions count number [] = []
before_blocks regions count number (b ∷ bs) =
    before_points regions (count + length (label number ++ symbol OpenBrace)) b.statements
    ++ before_blocks regions (count + length (block regions number b)) (number + 1) bs

-- the tokens before the blocks of a unit
abbrev pub opening : Body → List Token
opening u = header u.header ++ (symbol OpenBrace ++ lets u.header.signature.regions (first_let u.header) u.lets)

-- how many tokens of a unit's spelling come before each of its points
abbrev pub before_each : Body → List ℕ
before_each u = before_blocks u.header.signature.regions (length (opening u)) 0 u.blocks

-- the place of the token that has the given number of tokens before it
abbrev pub place_behind : Tokens → ℕ → ℕ
place_behind ts count = position (drop count ts)

-- where the points of a unit begin in a text that spells it
abbrev pub places_of : List ℕ → Body → List ℕ
places_of text u = map (place_behind (tokens 0 0 text)) (before_each u)
