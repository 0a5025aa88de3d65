-- The tokens of a text.
use Rattle.std.specs.Prelude.{◌≡◌, ◌≤◌, ◌^◌, ◌⊎◌, ⊤, ℕ, zero, suc, ◌+◌, ◌-◌, Bool, ◌||◌, ◌&&◌, if◌then◌else◌, ◌==◌, nat_le, List, [], ◌∷◌, length, drop, slice_index, Option, Some, None, fold, ◌*◌}
use Rattle.std.specs.Char.{is_ascii_alphabetic}
use Rattle.bc_syntax.specs.declared.symbol.Symbol.{Symbol}
use Rattle.bc_syntax.specs.declared.symbol.Symbol.TheVariants.{Arrow}
use Rattle.bc_syntax.specs.declared.numbering.Numbering.TheVariants as numberings
use Rattle.bc_syntax.specs.Token.{Token, Fixed, Numbered, Word, Region, NotAscii, Stray, End}
use Rattle.bc_tokens.specs.declared.token.Kind.{Kind}
use Rattle.bc_tokens.specs.declared.token.Kind.TheVariants as kinds
use Rattle.bc_syntax.specs.Bytes.{is_run_byte, run}
use Rattle.bc_syntax.specs.Symbol.{keyword_of, sign_of}
use Rattle.bc_syntax.specs.Words.{is_number, is_label, is_region_name}

-- a token and the place where it begins
pub record Placed : Type 0 where
  pub token : Token
  pub at : ℕ

-- a token at a place
abbrev pub placed : Token → ℕ → Placed
placed token at = record { token = token; at = at }

-- tokens in order, with their places
abbrev pub Tokens : Type 0
Tokens = List Placed

-- ---- bytes

-- the byte is a space or a line feed
abbrev pub is_blank : ℕ → Bool
is_blank b = b == 32 || b == 10

-- ---- runs

-- the value of digits
abbrev pub value : List ℕ → ℕ
value digits = fold (λ n b. n * 10 + (b - 48)) 0 digits

-- the token of a word, which may be a keyword
abbrev pub word : List ℕ → Option Symbol → Token
word name (Some keyword) = Fixed keyword
word name None = Word name

-- the token that a run is
unfoldable pub run_token : List ℕ → Token
run_token r =
    if is_number r then Numbered numberings.Number (value r)
    else (if slice_index r 0 == 95 && is_number (drop 1 r) then Numbered numberings.Local (value (drop 1 r))
    else (if is_label r then Numbered numberings.Label (value (drop 2 r))
    else (if is_ascii_alphabetic (slice_index r 0) then word r (keyword_of r)
    else Stray)))

-- the token of a run after `'`
unfoldable pub region_token : List ℕ → Token
region_token name = if is_region_name name then Region name else Stray

-- the token of a run after `'?`
unfoldable pub variable_token : List ℕ → Token
variable_token digits = if is_number digits then Numbered numberings.Variable (value digits) else Stray

-- the token of a sign, or a stray one if there is none
abbrev pub sign_token : Option Symbol → Token
sign_token (Some sign) = Fixed sign
sign_token None = Stray

-- ---- texts

-- the token at the front of a text, and its length
unfoldable pub lexeme : List ℕ → Token × ℕ
lexeme bytes =
    if is_run_byte (slice_index bytes 0) then (run_token (run bytes), length (run bytes))
    else (if slice_index bytes 0 == 39 && slice_index bytes 1 == 63 then (variable_token (run (drop 2 bytes)), 2 + length (run (drop 2 bytes)))
    else (if slice_index bytes 0 == 39 then (region_token (run (drop 1 bytes)), 1 + length (run (drop 1 bytes)))
    else (if slice_index bytes 0 == 45 && slice_index bytes 1 == 62 then (Fixed Arrow, 2)
    else (if nat_le 128 (slice_index bytes 0) then (NotAscii, 1)
    else (sign_token (sign_of (slice_index bytes 0)), 1)))))

-- the tokens of the bytes from place `at` on, of which the first `inside` belong to a token that began before
unfoldable pub tokens : (inside at : ℕ) → List ℕ → Tokens
tokens inside at [] = placed End at ∷ []
tokens (suc inside) at (b ∷ bytes) = tokens inside (at + 1) bytes
tokens zero at (b ∷ bytes) =
    if is_blank b then tokens 0 (at + 1) bytes
    else placed (lexeme (b ∷ bytes)).0 at ∷ tokens ((lexeme (b ∷ bytes)).1 - 1) (at + 1) bytes

-- ---- a token in the program

-- the token of a kind, with its digits or name
abbrev pub shown : Kind → List ℕ → Token
shown (kinds.Fixed symbol) text = Fixed symbol
shown (kinds.Numbered numbering) text = Numbered numbering (value text)
shown kinds.Word text = Word text
shown kinds.Region text = Region text
shown kinds.NotAscii text = NotAscii
shown kinds.Stray text = Stray
shown kinds.End text = End

-- `number` is exactly `counted`, or both are at least 2^32
abbrev pub Counts : (number counted : ℕ) → Type 0
Counts number counted = (number ≡ counted) ⊎ ((2 ^ 32 ≤ number) × (2 ^ 32 ≤ counted))

-- a token with digits keeps their value as its number
abbrev pub Keeps : Kind → List ℕ → ℕ → Type 0
Keeps (kinds.Numbered numbering) text number = Counts number (value text)
Keeps (kinds.Fixed symbol) text number = ⊤
Keeps kinds.Word text number = ⊤
Keeps kinds.Region text number = ⊤
Keeps kinds.NotAscii text number = ⊤
Keeps kinds.Stray text number = ⊤
Keeps kinds.End text number = ⊤
