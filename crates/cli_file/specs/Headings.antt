-- Header lines of all commands.
use Rattle.std.specs.Prelude.{◌≡◌, ℕ, List, [], ◌++◌, Option, Some, None, codes, decimal}
use Rattle.bc_names.specs.Names.{IsName, name_text}
use Rattle.bc_calls.specs.declared.call.Call.{Call}
use Rattle.bc_calls.specs.declared.call.Call.TheVariants as calls
use Rattle.cli_file.specs.declared.heading.Heading.{Heading}
use Rattle.cli_file.specs.declared.heading.Heading.TheVariants.{Types, Put, Remove, Ask, All as EveryRoot}

-- the words of a heading
abbrev pub heading_text : Heading → List ℕ
heading_text Types = codes "types"
heading_text (Put name) = codes "put " ++ name_text name
heading_text (Remove name) = codes "remove " ++ name_text name
heading_text (Ask name) = codes "ask " ++ name_text name
heading_text EveryRoot = codes "askall"

-- the name in a heading is valid, if it has one
abbrev pub IsNamed : Heading → Type 0
IsNamed Types = Unit {0}
IsNamed (Put name) = IsName name
IsNamed (Remove name) = IsName name
IsNamed (Ask name) = IsName name
IsNamed EveryRoot = Unit {0}

-- these words spell this heading
abbrev pub IsHeading : Heading → List ℕ → Type 0
IsHeading heading words = IsNamed heading × (words ≡ heading_text heading)

-- the number of the session that is to make the call, if the command has sessions
abbrev pub maker_text : Option ℕ → List ℕ
maker_text None = []
maker_text (Some session) = decimal session ++ codes " "

-- the bytes of a header line with this heading
abbrev pub IsHeader : Option ℕ → Heading → List ℕ → Type 0
IsHeader maker heading header = IsNamed heading × (header ≡ codes "@" ++ maker_text maker ++ heading_text heading)

-- the heading that asks for a call
abbrev pub heading_of : Call → Heading
heading_of (calls.Types types) = Types
heading_of (calls.Put name body) = Put name
heading_of (calls.Remove name) = Remove name
heading_of (calls.Ask name) = Ask name
heading_of calls.All = EveryRoot
