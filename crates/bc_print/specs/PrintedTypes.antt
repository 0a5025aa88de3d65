-- Declarations in the parts that are printed.
use Rattle.std.specs.Prelude.{ℕ, zero, suc, List, []}
use Rattle.bc_syntax.specs.declared.symbol.Symbol.{Symbol}
use Rattle.bc_syntax.specs.declared.symbol.Symbol.TheVariants.{Comma, Struct, Extern}
use Rattle.bc_syntax.specs.declared.syntax.Declaration.{Declaration}
use Rattle.bc_syntax.specs.declared.syntax.Declaration.TheVariants as declarations
use Rattle.bc_syntax.specs.Token.{Token}
use Rattle.bc_syntax.specs.Spelling.{symbol, struct_rest, extern_rest}

-- a comma, except before item 0
abbrev pub comma_before : ℕ → List Token
comma_before zero = []
comma_before (suc index) = symbol Comma

-- the first word of a declaration
abbrev pub first_word : Declaration → Symbol
first_word (declarations.Struct d) = Struct
first_word (declarations.Extern d) = Extern

-- what follows the first word of a declaration
abbrev pub behind_word : Declaration → List Token
behind_word (declarations.Struct d) = struct_rest d
behind_word (declarations.Extern d) = extern_rest d
