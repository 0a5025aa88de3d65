-- Printing of tokens: their texts, with one space between two and a line feed after the last.
use Rattle.std.specs.Prelude.{ℕ, List, [], ◌∷◌, ◌++◌, decimal, codes, Option}
use Rattle.std.specs.List.{flat_map}
use Rattle.std.specs.Io.KnownBytes.{Appends}
use Rattle.bc_syntax.specs.Symbol.{text}
use Rattle.bc_syntax.specs.declared.numbering.Numbering.{Numbering}
use Rattle.bc_syntax.specs.declared.numbering.Numbering.TheVariants as numberings
use Rattle.bc_syntax.specs.Token.{Token, Fixed, Numbered, Word, Region, NotAscii, Stray, End}

-- what comes before a number
abbrev pub mark : Numbering → List ℕ
mark numberings.Number = []
mark numberings.Local = codes "_"
mark numberings.Label = codes "bb"
mark numberings.Variable = codes "'?"

-- the text of a token, empty if there is none
abbrev pub token_text : Token → List ℕ
token_text (Fixed symbol) = text symbol
token_text (Numbered numbering number) = mark numbering ++ decimal number
token_text (Word name) = name
token_text (Region name) = codes "'" ++ name
token_text NotAscii = []
token_text Stray = []
token_text End = []

-- the texts of tokens, with a space before each
unfoldable pub spaced : List Token → List ℕ
spaced found = flat_map (λ t. 32 ∷ token_text t) found

-- the texts of these tokens, with a space before each, were written
abbrev pub Writes : Option (List ℕ) → Option (List ℕ) → List Token → Type 0
Writes old new found = Appends old new (spaced found)

-- the texts of tokens, with one space between two
abbrev pub texts : List Token → List ℕ
texts [] = []
texts (t ∷ ts) = token_text t ++ spaced ts

-- the texts of tokens, with one space between two and a line feed after the last
abbrev pub printed : List Token → List ℕ
printed found = texts found ++ codes "\n"
