-- Laws of printing and reading, and of faults.
use Rattle.std.specs.Prelude.{◌≡◌, ◌≢◌, ℕ, ◌+◌, ◌≤◌, List, [], ◌∷◌, ◌++◌, length, map, take, drop, Option, Some, None, Result, Ok, Err}
use Rattle.std.specs.List.{All}
use Rattle.bc_syntax.specs.declared.syntax.Body.{Body}
use Rattle.bc_syntax.specs.declared.syntax.Declaration.{Declaration}
use Rattle.bc_syntax.specs.Fits.{Fits, TypesFit}
use Rattle.bc_syntax.specs.Token.{Token, NotAscii, Stray, End}
use Rattle.bc_print.specs.Printing.{printed}
use Rattle.bc_syntax.specs.Spelling.{unit, types}
use Rattle.bc_tokens.specs.Token.{Placed, Tokens, lexeme, tokens}
use Rattle.bc_text.specs.declared.fault.ReadFault.{ReadFault}
use Rattle.bc_text.specs.declared.fault.ReadFault.TheVariants as faults
use Rattle.bc_text.specs.Spells.{Spells, SpellsTypes}
use Rattle.bc_text_laws.specs.Standing.{ClosuresStand, NoClosures}
use Rattle.bc_text.specs.Reading.{read, read_types}

-- what is printed of a unit spells it, if it has at most 1,048,576 bytes
abbrev pub PrintedIsSpelled : Type 0
PrintedIsSpelled = (u : Body) → Fits u → length (printed (unit u)) ≤ 1048576 → Spells (printed (unit u)) u

-- what is printed of a unit is read as it, if it has at most 1,048,576 bytes
abbrev pub PrintedIsRead : Type 0
PrintedIsRead = (u : Body) → Fits u → length (printed (unit u)) ≤ 1048576 → read (printed (unit u)) ≡ Ok u

-- what is printed of declarations spells them, if it has at most 1,048,576 bytes
abbrev pub PrintedTypesAreSpelled : Type 0
PrintedTypesAreSpelled = (ds : List Declaration) → TypesFit ds → length (printed (types ds)) ≤ 1048576 → SpellsTypes (printed (types ds)) ds

-- what is printed of declarations is read as them, if it has at most 1,048,576 bytes
abbrev pub PrintedTypesAreRead : Type 0
PrintedTypesAreRead = (ds : List Declaration) → TypesFit ds → length (printed (types ds)) ≤ 1048576 → read_types (printed (types ds)) ≡ Ok ds

-- ---- faults

-- a token of the grammar, or the end
abbrev pub IsProper : Token → Type 0
IsProper token = (token ≢ NotAscii) × (token ≢ Stray)

-- the fault reports this token: its place, and whether it is a byte that is not ASCII, no token, or one that is not allowed there
abbrev pub TellsToken : ReadFault → Placed → Type 0
TellsToken (faults.NotAscii at) bad = (bad.at ≡ at) × (bad.token ≡ NotAscii)
TellsToken (faults.Token at) bad = (bad.at ≡ at) × (bad.token ≡ Stray)
TellsToken (faults.Grammar at) bad = (bad.at ≡ at) × IsProper bad.token
TellsToken (faults.Limit at) bad = (bad.at ≡ at) × IsProper bad.token
TellsToken faults.TooLong bad = ⊥
TellsToken faults.NoMemory bad = ⊥

-- the tokens of some unit of the grammar begin with these, limits and side conditions aside
abbrev pub SomeUnitBegins : List Token → Type 0
SomeUnitBegins found = (u : Body) × ClosuresStand u × (later : List Token) × (unit u ≡ found ++ later)

-- the tokens of no unit that fits, and then the end, begin with these
abbrev pub NoUnitBegins : List Token → Type 0
NoUnitBegins found = (u : Body) → Fits u → (later : List Token) → unit u ++ End ∷ [] ≢ found ++ later

-- the tokens of some declarations of the grammar begin with these, limits and side conditions aside
abbrev pub SomeTypesBegin : List Token → Type 0
SomeTypesBegin found = (ds : List Declaration) × All NoClosures ds × (later : List Token) × (types ds ≡ found ++ later)

-- the tokens of no declarations that fit, and then the end, begin with these
abbrev pub NoTypesBegin : List Token → Type 0
NoTypesBegin found = (ds : List Declaration) → TypesFit ds → (later : List Token) → types ds ++ End ∷ [] ≢ found ++ later

-- the fault reports a token of the text: something begins with the tokens before it, and nothing with those up to and including it
abbrev pub HasBadToken : (SomethingBegins NothingBegins : List Token → Type 0) → List ℕ → ReadFault → Type 0
HasBadToken SomethingBegins NothingBegins bytes fault = (before : Tokens) × (bad : Placed) × (later : Tokens)
    × (tokens 0 0 bytes ≡ before ++ bad ∷ later) × TellsToken fault bad
    × SomethingBegins (map (λ (t : Placed). t.token) before) × NothingBegins (map (λ (t : Placed). t.token) (before ++ bad ∷ []))

-- each text that is refused and is not too long has such a token
abbrev pub RefusedHaveABadToken : {A : Type 0} → (List ℕ → Result A ReadFault) → (SomethingBegins NothingBegins : List Token → Type 0) → Type 0
RefusedHaveABadToken reads SomethingBegins NothingBegins = (bytes : List ℕ) (fault : ReadFault) → reads bytes ≡ Err fault → fault ≢ faults.TooLong → HasBadToken SomethingBegins NothingBegins bytes fault

-- the place that a fault reports
abbrev pub place_of : ReadFault → Option ℕ
place_of (faults.NotAscii at) = Some at
place_of (faults.Token at) = Some at
place_of (faults.Grammar at) = Some at
place_of (faults.Limit at) = Some at
place_of faults.TooLong = None
place_of faults.NoMemory = None

-- how many bytes a text has up to and including the one after the token at this place
abbrev pub reach : List ℕ → ℕ → ℕ
reach bytes at = at + (lexeme (drop at bytes)).1 + 1

-- each text with the same bytes, up to and including the one after a fault's token, has the same fault, if it is not too long
abbrev pub FaultsAreLocal : {A : Type 0} → (List ℕ → Result A ReadFault) → Type 0
FaultsAreLocal reads = (bytes other : List ℕ) (fault : ReadFault) (at : ℕ) → reads bytes ≡ Err fault → place_of fault ≡ Some at
    → length other ≤ 1048576 → take (reach bytes at) other ≡ take (reach bytes at) bytes → reads other ≡ Err fault
