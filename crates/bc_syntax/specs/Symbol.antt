-- How keywords and signs are spelled.
use Rattle.std.specs.Prelude.{ℕ, List, [], ◌∷◌, Bool, Option, codes, find}
use Rattle.std.specs.Str.{bytes_eq}
use denote.Enum.Bare.{sameb}
use Rattle.bc_syntax.specs.contracts.symbol.Symbol.{the_type}
use Rattle.bc_syntax.specs.declared.symbol.Symbol.{Symbol}
use Rattle.bc_syntax.specs.declared.symbol.Symbol.TheVariants as symbols
use Rattle.bc_syntax.specs.declared.symbol.TheConstants.{KEYWORDS, SIGNS}

-- two symbols are equal
unfoldable pub same : Symbol → Symbol → Bool
same = sameb the_type

-- the spelling of a symbol
unfoldable pub text : Symbol → List ℕ
text symbols.Fn = codes "fn"
text symbols.Closure = codes "closure"
text symbols.Where = codes "where"
text symbols.Let = codes "let"
text symbols.Int = codes "int"
text symbols.Mut = codes "mut"
text symbols.Copy = codes "copy"
text symbols.Move = codes "move"
text symbols.Calc = codes "calc"
text symbols.Dead = codes "dead"
text symbols.Drop = codes "drop"
text symbols.Nop = codes "nop"
text symbols.Goto = codes "goto"
text symbols.If = codes "if"
text symbols.Call = codes "call"
text symbols.Invoke = codes "invoke"
text symbols.Return = codes "return"
text symbols.Stop = codes "stop"
text symbols.Struct = codes "struct"
text symbols.Extern = codes "extern"
text symbols.OpenParen = codes "("
text symbols.CloseParen = codes ")"
text symbols.OpenBrace = codes "{"
text symbols.CloseBrace = codes "}"
text symbols.OpenBracket = codes "["
text symbols.CloseBracket = codes "]"
text symbols.Less = codes "<"
text symbols.Greater = codes ">"
text symbols.Comma = codes ","
text symbols.Semicolon = codes ";"
text symbols.Colon = codes ":"
text symbols.Equals = codes "="
text symbols.Plus = codes "+"
text symbols.Ampersand = codes "&"
text symbols.Dot = codes "."
text symbols.Star = codes "*"
text symbols.Arrow = codes "->"

-- the keyword that a word is, if it is one
unfoldable pub keyword_of : List ℕ → Option Symbol
keyword_of word = find (λ s. bytes_eq (text s) word) KEYWORDS

-- the sign that a byte is, if it is one
unfoldable pub sign_of : ℕ → Option Symbol
sign_of byte = find (λ s. bytes_eq (text s) (byte ∷ [])) SIGNS
