-- Reading from left to right: a value and the tokens after it, or the first fault.
use Rattle.std.specs.Prelude.{◌≡◌, ◌≢◌, ℕ, zero, suc, Bool, true, false, if◌then◌else◌, nat_le, List, [], ◌∷◌, ◌++◌, length, Option, Some, None, is_some, Result, Ok, Err}
use denote.Enum.Bare.{sameb}
use Rattle.bc_syntax.specs.contracts.numbering.Numbering.{the_type}
use Rattle.bc_syntax.specs.declared.numbering.Numbering.{Numbering}
use Rattle.bc_syntax.specs.declared.symbol.Symbol.{Symbol}
use Rattle.bc_syntax.specs.declared.symbol.Symbol.TheVariants.{Comma, Less, Greater}
use Rattle.bc_tokens.specs.declared.refusal.Refusal.{Refusal}
use Rattle.bc_tokens.specs.declared.refusal.Refusal.TheVariants as faults
use Rattle.bc_syntax.specs.Symbol.{same}
use Rattle.bc_syntax.specs.Token.{Token, Fixed, Numbered, Word, Region, NotAscii, Stray, End}
use Rattle.bc_tokens.specs.Token.{Placed, placed, Tokens}

-- ---- the next token

-- the next token, or a stray one if the list is empty
abbrev pub first : Tokens → Placed
first [] = placed Stray 0
first (token ∷ rest) = token

-- the tokens after the next one
abbrev pub after : Tokens → Tokens
after [] = []
after (token ∷ rest) = rest

-- the place of the next token
abbrev pub position : Tokens → ℕ
position ts = (first ts).at

-- the fault of a token at a place if the grammar does not allow it
abbrev pub fault_at : Token → ℕ → Refusal
fault_at NotAscii at = faults.NotAscii at
fault_at Stray at = faults.Token at
fault_at (Fixed symbol) at = faults.Grammar at
fault_at (Numbered numbering n) at = faults.Grammar at
fault_at (Word name) at = faults.Grammar at
fault_at (Region name) at = faults.Grammar at
fault_at End at = faults.Grammar at

-- the fault of the next token if the grammar does not allow it
unfoldable pub fault : Tokens → Refusal
fault ts = fault_at (first ts).token (first ts).at

-- the token is this symbol
abbrev pub is_fixed : Symbol → Token → Bool
is_fixed symbol (Fixed found) = same found symbol
is_fixed symbol (Numbered numbering n) = false
is_fixed symbol (Word name) = false
is_fixed symbol (Region name) = false
is_fixed symbol NotAscii = false
is_fixed symbol Stray = false
is_fixed symbol End = false

-- this symbol comes next
unfoldable pub sees : Symbol → Tokens → Bool
sees symbol ts = is_fixed symbol (first ts).token

-- two numberings are equal
unfoldable pub same_numbering : Numbering → Numbering → Bool
same_numbering = sameb the_type

-- the number of the token, if it is of this numbering
abbrev pub number_in : Numbering → Token → Option ℕ
number_in numbering (Numbered found n) = if same_numbering found numbering then Some n else None
number_in numbering (Fixed symbol) = None
number_in numbering (Word name) = None
number_in numbering (Region name) = None
number_in numbering NotAscii = None
number_in numbering Stray = None
number_in numbering End = None

-- a token of this numbering comes next
unfoldable pub sees_numbered : Numbering → Tokens → Bool
sees_numbered numbering ts = is_some (number_in numbering (first ts).token)

-- the name in the token, if it is a region
abbrev pub region_in : Token → Option (List ℕ)
region_in (Region name) = Some name
region_in (Fixed symbol) = None
region_in (Numbered numbering n) = None
region_in (Word name) = None
region_in NotAscii = None
region_in Stray = None
region_in End = None

-- the name in the token, if it is a word
abbrev pub word_in : Token → Option (List ℕ)
word_in (Word name) = Some name
word_in (Fixed symbol) = None
word_in (Numbered numbering n) = None
word_in (Region name) = None
word_in NotAscii = None
word_in Stray = None
word_in End = None

-- a word comes next
unfoldable pub sees_word : Tokens → Bool
sees_word ts = is_some (word_in (first ts).token)

-- a region comes next
unfoldable pub sees_region : Tokens → Bool
sees_region ts = is_some (region_in (first ts).token)

-- ---- parsers

-- a value and the tokens after it, or a fault
abbrev pub Outcome : Type 0 → Type 0
Outcome A = Result (A × Tokens) Refusal

-- a function from tokens to an outcome
abbrev pub Parser : Type 0 → Type 0
Parser A = Tokens → Outcome A

-- goes on from an outcome with the parser for its value
abbrev pub and_then : {A B : Type 0} → Outcome A → (A → Parser B) → Outcome B
and_then (Ok p) f = f p.0 p.1
and_then (Err e) f = Err e

-- one parser, then another that depends on its value
infixl 10 ◌>>=◌
abbrev pub ◌>>=◌ : {A B : Type 0} → Parser A → (A → Parser B) → Parser B
p >>= f = λ ts. and_then (p ts) f

-- one parser, then another
infixl 10 ◌>>◌
abbrev pub ◌>>◌ : {A B : Type 0} → Parser A → Parser B → Parser B
p >> q = p >>= (λ _. q)

-- reads nothing and gives this value
abbrev pub pure : {A : Type 0} → A → Parser A
pure a = λ ts. Ok (a, ts)

-- the value of a parser, mapped
infixr 11 ◌<$>◌
abbrev pub ◌<$>◌ : {A B : Type 0} → (A → B) → Parser A → Parser B
f <$> p = p >>= (λ x. pure (f x))

-- the function returned the outcome of the parser, or ran out of memory
abbrev pub Reads : {A : Type 0} → Outcome A → Result A Refusal → Tokens → Type 0
Reads outcome (Ok a) new = outcome ≡ Ok (a, new)
Reads outcome (Err e) new = e ≢ faults.NoMemory → outcome ≡ Err e

-- the function returned the outcome of the parser, seen by `view`, or ran out of memory
abbrev pub ReadsAs : {A B : Type 0} → (B → A) → Outcome A → Result B Refusal → Tokens → Type 0
ReadsAs view outcome (Ok b) new = outcome ≡ Ok (view b, new)
ReadsAs view outcome (Err e) new = e ≢ faults.NoMemory → outcome ≡ Err e

-- the next token is not allowed here
abbrev pub refuse : {A : Type 0} → Parser A
refuse = λ ts. Err (fault ts)

-- the next token is allowed, but one too many
abbrev pub past_limit : {A : Type 0} → Parser A
past_limit = λ ts. Err (faults.Limit (position ts))

-- reads nothing and gives the place of the next token
abbrev pub here : Parser ℕ
here = λ ts. Ok (position ts, ts)

-- a side condition fails at the token that was at this place
abbrev pub fail : {A : Type 0} → ℕ → Parser A
fail at = λ _. Err (faults.Grammar at)

-- the tokens without this symbol, if it comes next
unfoldable pub after_symbol : Symbol → Tokens → Tokens
after_symbol symbol ts = if sees symbol ts then after ts else ts

-- reads this symbol if it comes next, and gives whether it did
abbrev pub eat : Symbol → Parser Bool
eat symbol = λ ts. Ok (sees symbol ts, after_symbol symbol ts)

-- reads this symbol
unfoldable pub expect : Symbol → Parser (Unit {0})
expect symbol = λ ts. if sees symbol ts then Ok (tt, after ts) else Err (fault ts)

-- reads a token that has this number, up to a limit
abbrev pub numbered_to : ℕ → Option ℕ → Parser ℕ
numbered_to limit None = refuse
numbered_to limit (Some n) = λ ts. if nat_le n limit then Ok (n, after ts) else Err (faults.Limit (position ts))

-- reads a token of this numbering and gives its number, up to a limit
unfoldable pub numbered : Numbering → ℕ → Parser ℕ
numbered numbering limit = λ ts. numbered_to limit (number_in numbering (first ts).token) ts

-- reads a token that has this name, up to a length
abbrev pub name_to : ℕ → Option (List ℕ) → Parser (List ℕ)
name_to limit None = refuse
name_to limit (Some name) = λ ts. if nat_le (length name) limit then Ok (name, after ts) else Err (faults.Limit (position ts))

-- reads a region and gives its name, of at most 16 bytes
unfoldable pub region_name : Parser (List ℕ)
region_name = λ ts. name_to 16 (region_in (first ts).token) ts

-- reads a word that is no keyword, of at most 32 bytes
unfoldable pub word : Parser (List ℕ)
word = λ ts. name_to 32 (word_in (first ts).token) ts

-- the token is the end
abbrev pub is_end : Token → Bool
is_end End = true
is_end (Fixed symbol) = false
is_end (Numbered numbering n) = false
is_end (Word name) = false
is_end (Region name) = false
is_end NotAscii = false
is_end Stray = false

-- no token is left
unfoldable pub at_end : Parser (Unit {0})
at_end = λ ts. if is_end (first ts).token then Ok (tt, ts) else Err (fault ts)

-- ---- lists whose items depend on those before them

-- reads an item, and further ones if a comma comes
unfoldable pub declared_turn : {A : Type 0} → (List A → Parser A) → (List A → Parser (List A)) → List A → Parser (List A)
declared_turn item again found = do
  x ← item found
  more ← eat Comma
  if more then again (found ++ x ∷ []) else pure (found ++ x ∷ [])

-- reads items with commas between, at least one and at most this many; `begins` says whether an item may begin here
unfoldable pub declared_from : {A : Type 0} → (Tokens → Bool) → (List A → Parser A) → ℕ → List A → Parser (List A)
declared_from begins item zero found = λ ts. if begins ts then past_limit ts else refuse ts
declared_from begins item (suc room) found = declared_turn item (declared_from begins item room) found

-- reads such items, at least one, and what closes the list
abbrev pub declared_until : {A : Type 0} → (Tokens → Bool) → (List A → Parser A) → ℕ → Symbol → Parser (List A)
declared_until begins item limit close = do
  xs ← declared_from begins item limit []
  expect close
  pure xs

-- reads such items in `<` and `>`, or none if no `<` comes
unfoldable pub declared_list : {A : Type 0} → (Tokens → Bool) → (List A → Parser A) → ℕ → Parser (List A)
declared_list begins item limit = do
  some ← eat Less
  if some then declared_until begins item limit Greater else pure []

-- ---- lists whose items do not depend on one another

-- reads an item that does not depend on those before it
unfoldable pub alike : {A : Type 0} → Parser A → List A → Parser A
alike item found = item

-- reads items with commas between, at least one and at most this many
abbrev pub separated_from : {A : Type 0} → (Tokens → Bool) → Parser A → ℕ → List A → Parser (List A)
separated_from begins item = declared_from begins (alike item)

-- reads items in `<` and `>`, or none if no `<` comes
abbrev pub angled_list : {A : Type 0} → (Tokens → Bool) → Parser A → ℕ → Parser (List A)
angled_list begins item = declared_list begins (alike item)

-- reads no item, or items with commas between, and what closes the list
unfoldable pub closed_list : {A : Type 0} → (Tokens → Bool) → Parser A → ℕ → Symbol → Parser (List A)
closed_list begins item limit close = do
  empty ← eat close
  if empty then pure [] else declared_until begins (alike item) limit close

-- reads items with commas between after a symbol, or none if it does not come
unfoldable pub opened_list : {A : Type 0} → (Tokens → Bool) → Parser A → ℕ → Symbol → Parser (List A)
opened_list begins item limit opening = do
  some ← eat opening
  if some then separated_from begins item limit [] else pure []
