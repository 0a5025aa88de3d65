-- Tokens.
use Rattle.std.specs.Prelude.{ℕ, List}
use Rattle.bc_syntax.specs.declared.symbol.Symbol.{Symbol}
use Rattle.bc_syntax.specs.declared.numbering.Numbering.{Numbering}

-- a token as the grammar sees it
pub data Token : Type 0 where
  -- a keyword or a sign
  Fixed : Symbol → Token
  -- a number, local, label or region variable, and its number
  Numbered : Numbering → ℕ → Token
  -- a word that is no keyword
  Word : List ℕ → Token
  -- a region, by its name
  Region : List ℕ → Token
  -- a byte that is not ASCII, where a token would begin
  NotAscii : Token
  -- bytes that are no token
  Stray : Token
  -- the end of the text
  End : Token
